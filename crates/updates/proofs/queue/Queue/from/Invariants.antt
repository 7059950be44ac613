-- `updates::Queue::from` meets its contract: the loop asks each update from the head on. The invariant: the count is that of the
-- updates passed so far.
use Prim.Native.Nat.{◌≤◌}
use lib.ListN.{length, take}
use mathlib.Core.Path.{◌≡◌}
use Rattle.updates.specs.Queue.{waiting, from_line}
use Rattle.updates.proofs.queue.Queue.from.Given as goal

abbrev pub invariant-loop-update : goal.invariant-loop-update
invariant-loop-update l = record {
  counted : l.count ≡ length (from_line l.fn.line (take l.update-index (waiting l.fn.self)));
  few : l.count ≤ l.update-index;
}
