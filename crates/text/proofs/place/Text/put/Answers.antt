-- `text::place::Text::put` meets its contract: what is put so far are the bytes passed.
use native.Mathlib.Omega.{arith}
use Rattle.std.proofs.Math.Seq.{take-suc}
use native.Mathlib.Numerals.{add-one}
use Rattle.text.proofs.Places.{puts_then}
use Rattle.text.proofs.place.Text.put.Goals as goal

pub loop-b-preserved : goal.loop-b-preserved
loop-b-preserved c =
    rw (add-one, take-suc c.args.s.now c.loop-b.b-index 0 (omega arith)) (puts_then c.loop-b.invariant c.put_byte.ensures)
