-- The writer's frames in document 02's order: the values, then the parts of each row, its values state by state. Assumes nothing.
use mathlib.Core.Path.{◌≡◌, refl, ap, ◌∙◌}
use Prim.Native.Nat.{ℕ, ◌+◌, ◌*◌, ◌<◌}
use native.Mathlib.Omega.{arith}
use lib.ListN.{length}
use Rattle.devices.specs.declared.row.Row.{Row}
use Rattle.devices.specs.Row.{blank_row, stored, setting_of}
use Rattle.devices.specs.Table.{row_at}
use Rattle.trpc.specs.Methods.{methods, entry_with, entry_of}
use Rattle.trpc.specs.Payload.{setting_payload}
use Rattle.gateway.specs.State.{State}
use Rattle.gateway.specs.Reply.{on_line}
use Rattle.transfer.specs.declared.slots.Slot.{Slot}
use Rattle.transfer.specs.Slots.{value_slots, row_slots, slots, slot_at}
use Rattle.transfer.specs.Contents.{draft, value_payload, part_payload, payload_of, content_of}
use Rattle.transfer.specs.Hand.{line_at}
use Rattle.transfer.specs.Statement.{told, ValuesFirst, place_of, RowInOrder, InOrder}
use Rattle.transfer.proofs.Listed.{state_by_state}
use Rattle.transfer.proofs.Placing.{place_of_value, place_in_row, line_within, line_past}

module _ (g : State) where
  -- a frame of the values
  of_value : (k : ℕ) → k < 5 → line_at g k ≡ on_line (content_of (draft g.properties blank_row) (slot_at k))
  unfolding line_at
  of_value k h =
      line_within g.properties g.table k (omega arith) ∙ ap on_line (place_of_value g.properties g.table k blank_row h)

  pub values_first : ValuesFirst g
  unfolding slot_at slots value_slots row_slots content_of payload_of value_payload
  values_first = record {
    error = of_value 0 (omega arith);
    reporting = of_value 1 (omega arith);
    firmware = of_value 2 (omega arith);
    protocol = of_value 3 (omega arith);
    date = of_value 4 (omega arith);
  }

  -- a frame of a row
  module _ (i : ℕ) (h : i < length g.table) where
    abbrev r : Row
    r = row_at g.table i

    of_row : (k : ℕ) → k < 26 → line_at g (place_of i k) ≡ on_line (content_of (draft g.properties r) (slot_at (5 + k)))
    unfolding line_at
    of_row k m =
        line_within g.properties g.table (place_of i k) (omega arith) ∙ ap on_line (place_in_row g.properties g.table i k h m)

    of_state : (s n : ℕ) → s < 7 → n < 3
        → line_at g (place_of i (5 + (3 * s + n))) ≡ told (entry_of (setting_of n s)).id (setting_payload r.address (setting_of n s) (stored r (setting_of n s)))
    unfolding content_of payload_of part_payload
    of_state s n a b =
        of_row (5 + (3 * s + n)) (omega arith)
        ∙ ap (λ (x : Slot). on_line (content_of (draft g.properties r) x)) (state_by_state s n a b)

    pub row_in_order : RowInOrder g i r
    unfolding slot_at slots value_slots row_slots content_of payload_of part_payload stored
    row_in_order = record {
      attributes = of_row 0 (omega arith);
      version = of_row 1 (omega arith);
      state = of_row 2 (omega arith);
      events = of_row 3 (omega arith);
      mode = of_row 4 (omega arith);
      values = of_state;
    }

  -- all of them, and none past the last
  pub in_order : InOrder g
  unfolding line_at entry_with methods
  in_order = record {
    first = values_first;
    rows = row_in_order;
    past = λ place far. line_past g.properties g.table place far;
    unlisted = refl;
  }
