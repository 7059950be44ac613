-- `frames::line::frame_line` meets its contract: its five parts stand one after the other.
use Rattle.std.proofs.Common.{append_assoc}
use Rattle.text.proofs.Places.{puts_then, puts_same}
use Rattle.frames.specs.Lines.{frame_line}
use Rattle.frames.proofs.line.frame_line.Goals as goal

pub returns : goal.returns
unfolding frame_line
returns c =
    puts_same
    (puts_then c.put_event.ensures
    (puts_then c.put_byte.ensures (puts_then c.put_decimal.ensures (puts_then c.put_bytes.ensures c.put_byte-2.ensures))))
    (rw (← c.from.ensures) (simp append_assoc))
