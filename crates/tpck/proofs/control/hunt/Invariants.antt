-- `tpck::control::hunt` meets its contract: the bytes passed are no start, and the rest is still to be hunted. The loop's test stands
-- where the bytes that don't matter are passed.
use Rattle.std.proofs.Common.{◌-◌, ◌≤◌, length}
use Rattle.tpck.specs.Scan.{hunt, hunted_after}
use Rattle.tpck.proofs.Walks.{Rest}
use Rattle.tpck.proofs.control.hunt.Given as goal

abbrev pub invariant-loop-used : goal.invariant-loop-used
invariant-loop-used l = (l.used ≤ length l.line) × Rest hunt hunted_after l.escaped l.line l.pending l.used

abbrev pub decreases-loop-used : goal.decreases-loop-used
decreases-loop-used l = length l.line - l.used
