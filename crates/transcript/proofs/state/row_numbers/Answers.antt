-- `transcript::state::row_numbers` meets its contract: the array is the list of the six numbers.
use Rattle.transcript.specs.State.{row_numbers}
use Rattle.transcript.proofs.state.row_numbers.Goals as goal

pub returns : goal.returns
unfolding row_numbers
returns c = cc
