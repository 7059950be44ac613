-- `transcript::state::body_length` meets its contract: the length of the front inside a packet, else 0.
use mathlib.Core.Path.{ap}
use lib.ListN.{length}
use Rattle.transcript.specs.State.{body_length}
use Rattle.transcript.proofs.state.body_length.Goals as goal

pub returns-then-receiver : goal.returns-then-receiver
unfolding body_length
returns-then-receiver c = rw c.if-receiver.true (ap length c.take.ensures)

pub returns-else-receiver : goal.returns-else-receiver
unfolding body_length
returns-else-receiver c = rw c.if-receiver.false
