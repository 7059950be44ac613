-- `transcript::fields::put_next` meets its contract: the comma and the space, and after them the field with its serial line.
use Rattle.text.proofs.Places.{puts_then}
use Rattle.transcript.specs.Fields.{next_text}
use Rattle.transcript.proofs.fields.put_next.Goals as goal

pub returns : goal.returns
unfolding next_text
returns c =
    puts_then c.put.ensures c.put_named.ensures
