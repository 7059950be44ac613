-- `transcript::answers::put_waiting_head` meets its contract: its three parts stand one after the other.
use Rattle.text.proofs.Places.{puts_then}
use Rattle.transcript.specs.Answers.{waiting_head_text}
use Rattle.transcript.proofs.answers.put_waiting_head.Goals as goal

pub returns : goal.returns
unfolding waiting_head_text
returns c =
    puts_then (puts_then c.put.ensures c.put_line_field.ensures) (rw c.from.ensures at c.put_last.ensures)
