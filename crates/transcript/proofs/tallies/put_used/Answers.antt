-- `transcript::tallies::put_used` meets its contract: its five parts stand one after the other.
use Rattle.text.proofs.Places.{puts_then}
use Rattle.transcript.specs.Tallies.{used_text}
use Rattle.transcript.proofs.tallies.put_used.Goals as goal

pub returns : goal.returns
unfolding used_text
returns c =
    puts_then (puts_then (puts_then (puts_then c.put.ensures c.put_number.ensures) c.put_block_counts.ensures) c.put-2.ensures) c.put_frame.ensures
