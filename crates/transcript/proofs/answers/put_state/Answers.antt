-- `transcript::answers::put_state` meets its contract: its three parts stand one after the other.
use Rattle.text.proofs.Places.{puts_then}
use Rattle.transcript.specs.State.{state_text}
use Rattle.transcript.proofs.answers.put_state.Goals as goal

pub returns : goal.returns
unfolding state_text
returns c =
    puts_then (puts_then c.put_receivers.ensures c.put_carried.ensures) c.put_updates.ensures
