-- `transcript::state::put_row` meets its contract: its four parts stand one after the other.
use Rattle.text.proofs.Places.{puts_then}
use Rattle.transcript.specs.State.{row_text}
use Rattle.transcript.proofs.state.put_row.Goals as goal

pub returns : goal.returns
unfolding row_text
returns c =
    puts_then (puts_then (puts_then c.put.ensures (rw c.row_numbers.ensures at (c.put_numbers.ensures (λ n. n) (λ n m h. h)))) c.put_row_values.ensures) c.put_byte.ensures
