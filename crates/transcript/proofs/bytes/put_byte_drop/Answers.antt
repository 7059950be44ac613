-- `transcript::bytes::put_byte_drop` meets its contract: the word "byte", and after it the line of the drop.
use Rattle.text.proofs.Places.{puts_then}
use Rattle.transcript.specs.Answers.{byte_drop_text}
use Rattle.transcript.proofs.bytes.put_byte_drop.Goals as goal

pub returns : goal.returns
unfolding byte_drop_text
returns c =
    puts_then c.put.ensures (rw c.from.ensures at c.put_drop_line.ensures)
