-- `transcript::bytes::put_byte_event` meets its contract: the word "byte", and after it the line of the event.
use Rattle.text.proofs.Places.{puts_then}
use Rattle.transcript.specs.Answers.{byte_event_text}
use Rattle.transcript.proofs.bytes.put_byte_event.Goals as goal

pub returns : goal.returns
unfolding byte_event_text
returns c =
    puts_then c.put.ensures c.put_event_line.ensures
