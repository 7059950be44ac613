-- `transcript::state::put_update` meets its contract: its four parts stand one after the other.
use Rattle.text.proofs.Places.{puts_then}
use Rattle.transcript.specs.State.{update_text}
use Rattle.transcript.proofs.state.put_update.Goals as goal

pub returns : goal.returns
unfolding update_text
returns c =
    puts_then (puts_then (puts_then c.put.ensures (rw c.of.ensures at c.put_line_field.ensures)) (rw c.from.ensures at c.put_number.ensures)) (rw c.from-2.ensures at c.put_last.ensures)
