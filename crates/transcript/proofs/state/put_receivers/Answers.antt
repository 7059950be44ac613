-- `transcript::state::put_receivers` meets its contract: the controller's receiver, and after it the panel's.
use Rattle.text.proofs.Places.{puts_then}
use Rattle.transcript.specs.State.{receivers_text}
use Rattle.transcript.proofs.state.put_receivers.Goals as goal

pub returns : goal.returns
unfolding receivers_text
returns c =
    puts_then c.put_receiver.ensures c.put_receiver-2.ensures
