-- `transcript::state::put_properties` meets its contract: the word, the numbers and the end of the line.
use Rattle.text.proofs.Places.{puts_then}
use Rattle.transcript.specs.State.{properties_text}
use Rattle.transcript.proofs.state.put_properties.Goals as goal

pub returns : goal.returns
unfolding properties_text
returns c =
    puts_then (puts_then c.put.ensures (rw c.properties_numbers.ensures at (c.put_numbers.ensures (λ n. n) (λ n m h. h)))) c.put_byte.ensures
