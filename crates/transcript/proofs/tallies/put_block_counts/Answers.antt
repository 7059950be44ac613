-- `transcript::tallies::put_block_counts` meets its contract: the drops and after them the refusals, each with its total.
use Rattle.text.proofs.Places.{puts_then}
use Rattle.transcript.specs.Tallies.{counts_text}
use Rattle.transcript.proofs.tallies.put_block_counts.Goals as goal

pub returns : goal.returns
unfolding counts_text
returns c = let numbers = c.split_at.ensures in
    puts_then (rw numbers.front at c.put_tally.ensures) (rw numbers.back at c.put_tally-2.ensures)
