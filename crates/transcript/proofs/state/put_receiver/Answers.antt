-- `transcript::state::put_receiver` meets its contract: its five parts stand one after the other.
use Rattle.text.proofs.Places.{puts_then}
use Rattle.transcript.specs.State.{receiver_text}
use Rattle.transcript.proofs.state.put_receiver.Goals as goal

pub returns : goal.returns
unfolding receiver_text
returns c =
    puts_then (puts_then (puts_then (puts_then c.put.ensures c.put_line.ensures) c.put_either.ensures) c.put_either-2.ensures) (rw c.body_length.ensures at c.put_last.ensures)
