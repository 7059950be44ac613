-- `transcript::tallies::put_tally` meets its contract: its four parts stand one after the other.
use Rattle.text.proofs.Places.{puts_then}
use Rattle.transcript.specs.Tallies.{tally_text}
use Rattle.transcript.proofs.tallies.put_tally.Goals as goal

pub returns : goal.returns
unfolding tally_text
returns c =
    puts_then (puts_then (puts_then c.put.ensures (c.put_numbers.ensures (λ n. n) (λ n m h. h))) c.put-2.ensures) (rw c.from.ensures at c.put_number.ensures)
