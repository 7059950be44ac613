-- `transcript::answers::put_bad_line` meets its contract: its three parts stand one after the other.
use Rattle.text.proofs.Places.{puts_then}
use Rattle.transcript.specs.Answers.{bad_line_text}
use Rattle.transcript.proofs.answers.put_bad_line.Goals as goal

pub returns : goal.returns
unfolding bad_line_text
returns c =
    puts_then (puts_then c.put.ensures c.put_number.ensures) c.put-2.ensures
