-- `transcript::answers::put_carried` meets its contract: the properties, and the rows after them.
use Rattle.text.proofs.Places.{puts_then}
use Rattle.transcript.specs.State.{carried_text}
use Rattle.transcript.proofs.answers.put_carried.Goals as goal

pub returns : goal.returns
unfolding carried_text
returns c =
    puts_then c.put_properties.ensures c.put_rows.ensures
