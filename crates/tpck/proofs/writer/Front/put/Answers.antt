-- `tpck::writer::Front::put` meets its contract: one byte, with an escape before it where it is special.
use Rattle.std.proofs.Common.{arith, sym, ◌∙◌}
use Rattle.tpck.proofs.Stuffing.{width_special, width_plain, wrote_length, wrote_special, wrote_plain}
use Rattle.tpck.proofs.writer.Front.put.Goals as goal
use Rattle.tpck.proofs.writer.Front.put.Goals.{then-is_special, else-is_special}

pub put_bare-requires : goal.put_bare-requires
put_bare-requires c = omega (arith, width_special c.args.b (sym c.is_special.ensures ∙ c.if-is_special.true))

pub put_bare-requires-2 : goal.put_bare-requires-2
put_bare-requires-2 c = elim c.if-is_special.branch [
  | then-is_special w ↦
      let escape = w.put_bare.ensures.wrote in
      rw w.self-is (omega (arith, escape.place, wrote_length escape, width_special c.args.b (sym c.is_special.ensures ∙ w.if-is_special.true)))
  | else-is_special w ↦ rw w.self-is (omega (arith, width_plain c.args.b (sym c.is_special.ensures ∙ w.if-is_special.false)))
]

pub returns : goal.returns
returns c = elim c.if-is_special.branch [
  | then-is_special w ↦ record {
    same_buffer = cc;
    wrote = wrote_special c.args.b (sym c.is_special.ensures ∙ w.if-is_special.true) w.put_bare.ensures.wrote (rw w.self-is at c.put_bare-2.ensures.wrote);
  }
  | else-is_special w ↦ record {
    same_buffer = cc;
    wrote = wrote_plain c.args.b (sym c.is_special.ensures ∙ w.if-is_special.false) (rw w.self-is at c.put_bare-2.ensures.wrote);
  }
]
