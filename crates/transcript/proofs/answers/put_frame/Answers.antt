-- `transcript::answers::put_frame` meets its contract: the length, the bytes and the end of the line.
use Rattle.text.proofs.Places.{puts_then}
use Rattle.transcript.specs.Answers.{frame_text}
use Rattle.transcript.proofs.answers.put_frame.Goals as goal

pub returns : goal.returns
unfolding frame_text
returns c =
    rw (← c.take.ensures)
    (puts_then (puts_then c.put_number.ensures c.put_bytes.ensures) c.put_byte.ensures)
