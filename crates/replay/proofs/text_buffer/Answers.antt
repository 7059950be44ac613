-- `replay::text_buffer` meets its contract: the length of a repeat.
use Rattle.std.proofs.Common.{ℕ, sym}
use lib.ListN.{length-replicate}
use Rattle.replay.specs.Progress.{line_room}
use Rattle.replay.proofs.text_buffer.Goals as goal

pub returns : goal.returns
returns c = sym (length-replicate {A = ℕ} line_room 0)
