-- `transcript::answers::put_refusal` meets its contract: the word, and after it the number.
use Rattle.text.proofs.Places.{puts_then}
use Rattle.transcript.proofs.answers.put_refusal.Goals as goal

pub returns : goal.returns
returns c =
    puts_then c.put.ensures (rw c.from.ensures at c.put_last.ensures)
