-- `replay::main`: the buffers of the progress keep their room.
use Rattle.replay.specs.Progress.{Rooms}
use Rattle.replay.proofs.main.Given as goal

abbrev pub invariant-loop : goal.invariant-loop
invariant-loop l = Rooms l.progress
