-- `transcript::numbers::put_number` meets its contract: the space, and after it the digits.
use Rattle.text.proofs.Places.{puts_then}
use Rattle.transcript.specs.Fields.{number_text}
use Rattle.transcript.proofs.numbers.put_number.Goals as goal

pub returns : goal.returns
unfolding number_text
returns c =
    puts_then c.put_byte.ensures c.put_decimal.ensures
