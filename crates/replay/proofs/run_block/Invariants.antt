-- `replay::run_block`: the bytes that are left take the progress on to what the whole block does; they are the measure too.
use Rattle.std.proofs.Common.{◌≡◌, length}
use Rattle.replay.specs.Progress.{view, after_bytes, Rooms}
use Rattle.replay.proofs.run_block.Given as goal

abbrev pub invariant-loop-rest : goal.invariant-loop-rest
invariant-loop-rest l = record {
  state : after_bytes (view l.progress) l.rest ≡ after_bytes (view l.initial.progress) l.initial.rest;
  rooms : Rooms l.progress;
}

abbrev pub decreases-loop-rest : goal.decreases-loop-rest
decreases-loop-rest l = length l.rest
