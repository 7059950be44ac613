-- `text::place::Text::put_bytes` meets its contract: what is put so far is the text of the bytes passed.
use mathlib.Core.List.{◌∷◌}
use native.Mathlib.Omega.{arith}
use Rattle.text.specs.Place.{space}
use Rattle.text.specs.Hex.{hex}
use Rattle.text.proofs.Places.{puts_then}
use Rattle.text.proofs.Texts.{puts_none, puts_next}
use Rattle.text.proofs.place.Text.put_bytes.Goals as goal

pub loop-b-init : goal.loop-b-init
loop-b-init c = puts_none (λ b. space ∷ hex b) c.args.s.now c.args.self.now

pub loop-b-preserved : goal.loop-b-preserved
loop-b-preserved c =
    puts_next (λ b. space ∷ hex b) c.args.s.now c.loop-b.invariant 0 (omega arith) (puts_then c.put_byte.ensures c.put_hex.ensures)
