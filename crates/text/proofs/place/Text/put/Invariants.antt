-- `text::place::Text::put` meets its contract: what is put so far are the bytes passed.
use Rattle.std.proofs.Common.{take}
use Rattle.text.specs.Place.{Puts}
use Rattle.text.proofs.place.Text.put.Given as goal

abbrev pub invariant-loop-b : goal.invariant-loop-b
invariant-loop-b l = Puts (take l.b-index l.s) l.initial.self l.self
