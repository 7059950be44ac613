-- `text::place::Text::put_bytes` meets its contract: what is put so far is the text of the bytes passed.
use Rattle.std.proofs.Common.{take}
use Rattle.text.specs.Place.{Puts}
use Rattle.text.specs.Hex.{hex_bytes}
use Rattle.text.proofs.place.Text.put_bytes.Given as goal

abbrev pub invariant-loop-b : goal.invariant-loop-b
invariant-loop-b l = Puts (hex_bytes (take l.b-index l.s)) l.initial.self l.self
