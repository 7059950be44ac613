-- `transcript::bytes::put_byte_reply` meets its contract: its four parts stand one after the other.
use Rattle.text.proofs.Places.{puts_then}
use Rattle.transcript.specs.Answers.{byte_reply_text}
use Rattle.transcript.proofs.bytes.put_byte_reply.Goals as goal

pub returns : goal.returns
unfolding byte_reply_text
returns c =
    rw (← c.take.ensures)
    (puts_then (puts_then (puts_then c.put.ensures c.put_event.ensures) c.put_bytes.ensures) c.put_byte.ensures)
