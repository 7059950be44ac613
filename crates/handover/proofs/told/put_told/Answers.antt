-- `handover::told::put_told` meets its contract: no byte, a gateway that was read, or a refusal, and all of it is short enough.
use Rattle.std.proofs.Common.{◌≡◌, ℕ, ◌-◌, List, length, take, drop, sym, ap, ◌∙◌, length-drop, eqb-true, arith}
use Rattle.std.proofs.lemmas.Bool.{eqb-false}
use lib.Seq.{take-length}
use Rattle.transfer.specs.declared.reader.ReadRefusal.TheVariants.{Length}
use Rattle.transfer.specs.Reading.{read}
use Rattle.handover.specs.Told.{told_of}
use Rattle.handover.proofs.Telling.{told_none, told_some, refused_fits}
use Rattle.handover.proofs.told.put_told.Goals as goal

-- the frames are all of the input after its first byte
frames : (l : List ℕ) (count : ℕ) → read 0 0 count (take (length l - 1) (drop 1 l)) ≡ read 0 0 count (drop 1 l)
frames l count =
    let e : length l - 1 ≡ length (drop 1 l) = sym (length-drop 1 l) in
    ap (λ (bytes : List ℕ). read 0 0 count bytes) (rw (e, take-length))

pub returns-then-is_empty : goal.returns-then-is_empty
returns-then-is_empty c =
    rw (told_none c.args.input.now (eqb-true (length c.args.input.now) 0 (sym c.is_empty.ensures ∙ c.if-is_empty.true)))
    (record { text = c.put_refused.ensures; short = refused_fits 0 Length (omega arith) })

pub returns-in-Ok : goal.returns-in-Ok
unfolding told_of
returns-in-Ok c = let input = c.args.input.now in
    let count = c.from-count.result in
    rw (told_some input (eqb-false (length input) 0 (sym c.is_empty.ensures ∙ c.if-is_empty.false)), ← c.from-count.ensures, ← (c.read-handed.ensures ∙ frames input count), c.in-Ok.is)
    (record { text = c.put_read.ensures.text; short = c.put_read.ensures.short })

pub returns-in-Err : goal.returns-in-Err
unfolding told_of
returns-in-Err c = let input = c.args.input.now in
    let count = c.from-count.result in
    rw (told_some input (eqb-false (length input) 0 (sym c.is_empty.ensures ∙ c.if-is_empty.false)), ← c.from-count.ensures, ← (c.read-handed.ensures ∙ frames input count), c.in-Err.is, ← c.place_in.ensures)
    (record { text = c.put_refused-in-Err.ensures; short = refused_fits c.place_in.result c.in-Err.refused.why (omega arith) })
