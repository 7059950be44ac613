-- `transcript::numbers::put_last` meets its contract: the number, and after it the end of the line.
use Rattle.text.proofs.Places.{puts_then}
use Rattle.transcript.specs.Answers.{last_text}
use Rattle.transcript.proofs.numbers.put_last.Goals as goal

pub returns : goal.returns
unfolding last_text
returns c =
    puts_then c.put_number.ensures c.put_byte.ensures
