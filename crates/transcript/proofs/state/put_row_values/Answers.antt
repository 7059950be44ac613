-- `transcript::state::put_row_values` meets its contract: its three parts stand one after the other.
use Rattle.text.proofs.Places.{puts_then}
use Rattle.transcript.specs.State.{row_values_text}
use Rattle.transcript.proofs.state.put_row_values.Goals as goal

pub returns : goal.returns
unfolding row_values_text
returns c =
    puts_then (puts_then (c.put_numbers.ensures (λ n. n) (λ n m h. h)) (c.put_numbers-2.ensures (λ n. n) (λ n m h. h))) (c.put_numbers-3.ensures (λ n. n) (λ n m h. h))
