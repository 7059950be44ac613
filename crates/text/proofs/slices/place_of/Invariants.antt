-- `text::slices::place_of` meets its contract: the answer for all is the answer for the bytes from i on.
use Rattle.std.proofs.Common.{◌≡◌}
use Rattle.text.specs.Slices.{place_of}
use Rattle.text.proofs.slices.place_of.Given as goal

abbrev pub invariant-loop-i : goal.invariant-loop-i
invariant-loop-i l = place_of l.b l.s l.at ≡ place_of l.b l.s l.i
