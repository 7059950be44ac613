-- `script::cursor::Cursor::read_seven` meets its contract: the values so far, and the cursor after them.
use Rattle.std.proofs.Common.{◌≡◌, refl, sym, ◌∙◌, ap, arith, add-one}
use lib.ListN.{length-set}
use lib.Seq.{take_all, take-suc-set}
use Rattle.script.specs.Place.{place, moved}
use Rattle.script.specs.Reading.{read_seven, values_read, after_values}
use Rattle.script.proofs.Readings.{values_more, after_more}
use Rattle.script.proofs.cursor.Cursor.read_seven.Goals as goal

pub loop-i-init : goal.loop-i-init
unfolding after_values values_read
loop-i-init c = (refl, refl, refl)

pub loop-i-preserved : goal.loop-i-preserved
loop-i-preserved c = let l = c.loop-i in
    let start = c.args.self.now in
    let line = start.line.now in
    let here = ap place l.invariant.2 in
    let read = rw l.invariant.2 at c.read_u8.ensures in (
      simp length-set l.invariant.0,
      rw (add-one, take-suc-set l.values l.i c.read_u8.result (omega (arith, l.invariant.0))) (values_more l.i line (place start) refl read.0 l.invariant.1),
      rw add-one (read.1 ∙ ap (moved start) (after_more l.i line (place start) refl read.0 refl)),
    )

pub returns : goal.returns
unfolding read_seven
returns c = let l = c.loop-i in
    let seven : l.i ≡ 7 = omega arith in
    (sym (take_all 7 l.values (omega (arith, l.invariant.0))) ∙ rw seven at l.invariant.1, rw seven at l.invariant.2)
