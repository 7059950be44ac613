-- `transfer::slots::state_slot` meets its contract: the state is the quotient by 3, and the setting the remainder.
use mathlib.Core.Path.{◌≡◌, sym, ap, ◌∙◌}
use Prim.Native.Nat.{ℕ, ◌+◌, ◌*◌, ◌/◌, ◌%◌, ◌<◌}
use native.Mathlib.Omega.{arith}
use native.Mathlib.Nat.{mod-add-div, mod-lt, div-lt_iff_lt-mul}
use Rattle.devices.specs.Row.{setting_of}
use Rattle.trpc.specs.Services.{response_request}
use Rattle.trpc.specs.Methods.{entry_of}
use Rattle.transfer.specs.declared.slots.Item.TheVariants.{OfRow}
use Rattle.transfer.specs.declared.slots.Part.TheVariants.{Value}
use Rattle.transfer.specs.Slots.{slot, slot_at}
use Rattle.transfer.proofs.Listed.{state_by_state}
use Rattle.transfer.proofs.slots.state_slot.Goals as goal

-- the slot of a place, by the remainder that was found
by_three : (k n : ℕ) → k < 21 → k % 3 ≡ n → slot_at (10 + k) ≡ slot response_request (entry_of (setting_of n (k / 3))).id (OfRow (Value (setting_of n (k / 3))))
by_three k n few e =
    let state_below : k / 3 < 7 = (div-lt_iff_lt-mul {k = 3} {x = k} {y = 7} (omega arith)).1 (omega (arith, few)) in
    let place : 10 + k ≡ 5 + (5 + (3 * (k / 3) + k % 3)) = omega (arith, mod-add-div k 3) in
    ap slot_at place
    ∙ state_by_state (k / 3) (k % 3) state_below (mod-lt k (omega arith))
    ∙ ap (λ (m : ℕ). slot response_request (entry_of (setting_of m (k / 3))).id (OfRow (Value (setting_of m (k / 3))))) e

pub overflow_cast-state : goal.overflow_cast-state
overflow_cast-state c = omega (arith, (div-lt_iff_lt-mul {k = 3} {x = c.args.k} {y = 7} (omega arith)).1 (omega (arith, c.requires)))

pub returns-in-0 : goal.returns-in-0
returns-in-0 c = c.of_row.ensures ∙ sym (by_three c.args.k 0 c.requires c.in-0.is)

pub returns-in-1 : goal.returns-in-1
returns-in-1 c = c.of_row-in-1.ensures ∙ sym (by_three c.args.k 1 c.requires c.in-1.is)

pub returns-in_default : goal.returns-in_default
returns-in_default c =
    let third : c.args.k % 3 < 3 = mod-lt c.args.k (omega arith) in
    c.of_row-in_default.ensures ∙ sym (by_three c.args.k 2 c.requires (omega (arith, third)))
