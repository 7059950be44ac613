-- `listing::line::reply_line` meets its contract: its three parts stand one after the other.
use Rattle.text.proofs.Places.{puts_then}
use Rattle.text.proofs.Places.{puts_same}
use Rattle.std.proofs.Common.{append_assoc}
use Rattle.listing.specs.Lines.{reply_line}
use Rattle.listing.proofs.line.reply_line.Goals as goal

pub returns : goal.returns
unfolding reply_line
returns c =
    rw (← c.take.ensures) (puts_same (puts_then c.put_event.ensures (puts_then c.put_bytes.ensures c.put_byte.ensures)) (simp append_assoc))
