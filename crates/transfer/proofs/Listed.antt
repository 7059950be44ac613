-- The list of frames has 31 places, five and 26; its values for states stand state by state. Assumes nothing.
use mathlib.Core.Path.{◌≡◌, refl, sym}
use Prim.Native.Nat.{ℕ, zero, suc, ◌+◌, ◌*◌, ◌<◌, ◌≤◌}
use native.Mathlib.Omega.{arith}
use lib.ListN.{length, get_or-eq_default}
use Rattle.devices.specs.Row.{setting_of}
use Rattle.trpc.specs.Services.{response_request}
use Rattle.trpc.specs.Methods.{entry_of}
use Rattle.trpc.specs.declared.methods.GatewayMethod.TheVariants.{NetworkError}
use Rattle.transfer.specs.declared.slots.Item.TheVariants.{OfGateway, OfRow}
use Rattle.transfer.specs.declared.slots.Part.TheVariants.{Value}
use Rattle.transfer.specs.Slots.{slot, value_slots, row_slots, slots, slot_at}

pub thirty_one : length slots ≡ 31
unfolding slots value_slots row_slots
thirty_one = refl

pub five : length value_slots ≡ 5
unfolding value_slots
five = refl

pub twenty_six : length row_slots ≡ 26
unfolding row_slots
twenty_six = refl

-- numbers one by one
below_three : (P : ℕ → Type 0) → P 0 → P 1 → P 2 → (n : ℕ) → n < 3 → P n
below_three P a b c zero h = a
below_three P a b c (suc zero) h = b
below_three P a b c (suc (suc zero)) h = c
below_three P a b c (suc (suc (suc n))) h = absurd (omega arith)

below_seven : (P : ℕ → Type 0) → P 0 → P 1 → P 2 → P 3 → P 4 → P 5 → P 6 → (n : ℕ) → n < 7 → P n
below_seven P a b c d e f g zero h = a
below_seven P a b c d e f g (suc zero) h = b
below_seven P a b c d e f g (suc (suc zero)) h = c
below_seven P a b c d e f g (suc (suc (suc zero))) h = d
below_seven P a b c d e f g (suc (suc (suc (suc zero)))) h = e
below_seven P a b c d e f g (suc (suc (suc (suc (suc zero))))) h = f
below_seven P a b c d e f g (suc (suc (suc (suc (suc (suc zero)))))) h = g
below_seven P a b c d e f g (suc (suc (suc (suc (suc (suc (suc n))))))) h = absurd (omega arith)

-- of a state s the setting with the number n: "for states 0 to 6 cool, slab, fan"
abbrev StateByState : ℕ → ℕ → Type 0
StateByState s n = slot_at (5 + (5 + (3 * s + n))) ≡ slot response_request (entry_of (setting_of n s)).id (OfRow (Value (setting_of n s)))

pub state_by_state : (s n : ℕ) → s < 7 → n < 3 → StateByState s n
unfolding slot_at slots value_slots row_slots
state_by_state s n h k =
    below_seven (λ s. (n : ℕ) → n < 3 → StateByState s n)
    (below_three (StateByState 0) refl refl refl)
    (below_three (StateByState 1) refl refl refl)
    (below_three (StateByState 2) refl refl refl)
    (below_three (StateByState 3) refl refl refl)
    (below_three (StateByState 4) refl refl refl)
    (below_three (StateByState 5) refl refl refl)
    (below_three (StateByState 6) refl refl refl)
    s h n k

-- past the last the first
pub slot_past : (i : ℕ) → 31 ≤ i → slot_at 0 ≡ slot_at i
unfolding slot_at slots value_slots row_slots
slot_past i h = sym (get_or-eq_default slots (slot response_request 0x107 (OfGateway NetworkError)) {n = i} (omega (arith, thirty_one)))
