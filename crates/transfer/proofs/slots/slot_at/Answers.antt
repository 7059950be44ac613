-- `transfer::slots::slot_at` meets its contract: past the last stands the first.
use mathlib.Core.Path.{◌∙◌}
use native.Mathlib.Omega.{arith}
use Rattle.transfer.specs.Slots.{value_slots, row_slots, slots, slot_at}
use Rattle.transfer.proofs.Listed.{slot_past}
use Rattle.transfer.proofs.slots.slot_at.Goals as goal

pub returns-in_default : goal.returns-in_default
unfolding value_slots row_slots slots slot_at
returns-in_default c = c.of_gateway-in_default.ensures ∙ slot_past c.args.i (omega arith)
