-- `transcript::fields::put_line_field` meets its contract: the serial line, a space and the field stand one after the other.
use Rattle.text.proofs.Places.{puts_then}
use Rattle.transcript.specs.Fields.{line_field_text}
use Rattle.transcript.proofs.fields.put_line_field.Goals as goal

pub returns : goal.returns
unfolding line_field_text
returns c =
    puts_then c.put_line.ensures (puts_then c.put_byte.ensures c.put_field.ensures)
