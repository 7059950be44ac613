-- `transcript::fields::put_stated` meets its contract: the word, the address and the state stand one after the other.
use Rattle.text.proofs.Places.{puts_then}
use Rattle.transcript.specs.Fields.{stated_text}
use Rattle.transcript.proofs.fields.put_stated.Goals as goal

pub returns : goal.returns
unfolding stated_text
returns c =
    puts_then (puts_then c.put.ensures (rw c.from.ensures at c.put_number.ensures)) (rw c.from-2.ensures at c.put_number-2.ensures)
