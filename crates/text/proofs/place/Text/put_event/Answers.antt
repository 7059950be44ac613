-- `text::place::Text::put_event` meets its contract: its parts stand one after the other.
use mathlib.Core.List.{append_assoc}
use Rattle.text.specs.Event.{event_text}
use Rattle.text.proofs.Places.{puts_then, puts_same}
use Rattle.text.proofs.place.Text.put_event.Goals as goal

pub returns : goal.returns
unfolding event_text
returns c =
    puts_same
    (puts_then c.put_decimal.ensures
    (puts_then c.put_byte.ensures (puts_then c.put.ensures (puts_then c.put_byte-2.ensures c.put_decimal-2.ensures))))
    (simp append_assoc)
