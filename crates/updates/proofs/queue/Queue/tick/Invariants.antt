-- `updates::Queue::tick` meets its contract: the loop puts each update, one tick older, at the place after those that stay, or its
-- field into the list. The invariant: both are those of the updates passed so far.
use Rattle.updates.proofs.Ticks.{Passed}
use Rattle.updates.proofs.queue.Queue.tick.Given as goal

abbrev pub invariant-loop-update : goal.invariant-loop-update
invariant-loop-update l = Passed l.fn.self l.update-index (record { count = l.kept; slots = l.slots }) (record { count = l.left; list = l.list })
