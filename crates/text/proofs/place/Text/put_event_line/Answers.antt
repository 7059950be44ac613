-- `text::place::Text::put_event_line` meets its contract: the event, and the end of the line.
use Rattle.text.specs.Event.{event_line}
use Rattle.text.proofs.Places.{puts_then}
use Rattle.text.proofs.place.Text.put_event_line.Goals as goal

pub returns : goal.returns
unfolding event_line
returns c = puts_then c.put_event.ensures c.put_byte.ensures
