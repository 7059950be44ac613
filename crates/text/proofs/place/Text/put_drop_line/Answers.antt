-- `text::place::Text::put_drop_line` meets its contract: its parts stand one after the other.
use mathlib.Core.List.{append_assoc}
use Rattle.text.specs.Event.{drop_line}
use Rattle.text.proofs.Places.{puts_then, puts_same}
use Rattle.text.proofs.place.Text.put_drop_line.Goals as goal

pub returns : goal.returns
unfolding drop_line
returns c =
    puts_same
    (puts_then c.put_event.ensures (puts_then c.put_byte.ensures (puts_then c.put_decimal.ensures c.put_byte-2.ensures)))
    (simp append_assoc)
