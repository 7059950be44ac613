-- Worked examples, computed: frames of document 01's exchanges B and C among the writer's, and each refusal. Assumes nothing.
use mathlib.Core.Path.{◌≡◌, refl}
use mathlib.Core.List.{List, [], ◌∷◌}
use mathlib.Core.Bool.{true}
use Prim.Native.Nat.{ℕ}
use lib.ListN.{get_or}
use Rattle.lists.specs.Overlay.{overlay}
use Rattle.tpck.specs.Frame.{stuffed, sum, checksum, enclosed}
use Rattle.tpck.specs.Receive.{step}
use Rattle.devices.specs.declared.row.Row.{Row}
use Rattle.devices.specs.declared.table.RowRefusal.TheVariants.{BadRow, AddressInTable, TableFull}
use Rattle.devices.specs.Row.{row, for_state, has, stored, mode_legal, in_range, legal, holds, holds_in_states, values_held, keeps_rules, with_value}
use Rattle.devices.specs.Table.{rows_of, refill_rows, fresh_table, row_answer}
use Rattle.dates.specs.Calendar.{is_leap, common_days, days_in}
use Rattle.dates.specs.Date.{is_between, day_valid, time_valid, valid, no_date, valid_or}
use Rattle.trpc.specs.Date.{date_in}
use Rattle.trpc.specs.Properties.{properties, fresh}
use Rattle.trpc.specs.declared.properties.Properties.{Properties}
use Rattle.std.specs.Prelude.{Ok}
use Rattle.transfer.specs.declared.reader.ReadRefusal.TheVariants as refusal
use Rattle.gateway.specs.Reply.{on_line}
use Rattle.transfer.specs.Slots.{value_slots, row_slots, slots, slot_at}
use Rattle.transfer.specs.Contents.{value_payload, part_payload, payload_of, content_of, value_contents, row_contents, rows_contents, contents, lines}
use Rattle.transfer.specs.Carry.{took_value, took_part, took, fresh_draft}
use Rattle.transfer.proofs.Carried.{joined}
use Rattle.lists.specs.Equal.{equal}
use Rattle.transfer.specs.Reading.{ReadAnswer, refused_at, start, done, placed, is_due, frame, byte, accepted, refused, ended, reading, read}

-- document 01's listing table, and a gateway with no date
listed : Row
listed = row 1 112810 0x0B 0 4 0 (44 ∷ 44 ∷ 44 ∷ 44 ∷ 44 ∷ 44 ∷ 44 ∷ []) (255 ∷ 255 ∷ 255 ∷ 255 ∷ 255 ∷ 255 ∷ 255 ∷ []) (0 ∷ 0 ∷ 0 ∷ 0 ∷ 0 ∷ 0 ∷ 0 ∷ [])

bad : Row
bad = row 0 112810 0x0B 0 4 0 (44 ∷ 44 ∷ 44 ∷ 44 ∷ 44 ∷ 44 ∷ 44 ∷ []) (255 ∷ 255 ∷ 255 ∷ 255 ∷ 255 ∷ 255 ∷ 255 ∷ []) (0 ∷ 0 ∷ 0 ∷ 0 ∷ 0 ∷ 0 ∷ 0 ∷ [])

old : Properties
old = properties 0x0102 true 116 1 no_date

at : List Row → ℕ → List ℕ
at l k = get_or (lines old l) k []

answered : ℕ → List ℕ → ReadAnswer
answered n bytes = (read 7 9 n bytes).answer

whole : List Row → List ℕ
whole l = joined (lines old l)

examples :
    (at (listed ∷ []) 0 ≡ 0xCA ∷ 7 ∷ 6 ∷ 4 ∷ 7 ∷ 1 ∷ 0 ∷ 0 ∷ 2 ∷ 1 ∷ 0x1C ∷ 0x35 ∷ [])
    × (at (listed ∷ []) 4 ≡ 0xCA ∷ 12 ∷ 6 ∷ 3 ∷ 0xA7 ∷ 1 ∷ 0 ∷ 0 ∷ 255 ∷ 255 ∷ 255 ∷ 255 ∷ 255 ∷ 255 ∷ 255 ∷ 0xB6 ∷ 0x35 ∷ [])
    × (at (listed ∷ []) 5 ≡ 0xCA ∷ 9 ∷ 6 ∷ 4 ∷ 0x1F ∷ 1 ∷ 0 ∷ 0 ∷ 1 ∷ 0 ∷ 0x0B ∷ 0 ∷ 0x3F ∷ 0x35 ∷ [])
    × (at (listed ∷ []) 6 ≡ 0xCA ∷ 11 ∷ 6 ∷ 4 ∷ 0x9F ∷ 1 ∷ 0 ∷ 0 ∷ 1 ∷ 0 ∷ 0xAA ∷ 0xB8 ∷ 1 ∷ 0 ∷ 0x19 ∷ 0x35 ∷ [])
    × (at (listed ∷ []) 7 ≡ 0xCA ∷ 8 ∷ 6 ∷ 4 ∷ 0x77 ∷ 1 ∷ 0 ∷ 0 ∷ 1 ∷ 0 ∷ 4 ∷ 0x8F ∷ 0x35 ∷ [])
    × (at (listed ∷ []) 11 ≡ 0xCA ∷ 9 ∷ 6 ∷ 4 ∷ 0x4F ∷ 1 ∷ 0 ∷ 0 ∷ 1 ∷ 0 ∷ 0 ∷ 255 ∷ 0x63 ∷ 0x35 ∷ [])
    × (at (listed ∷ []) 31 ≡ [])
    × (answered 33 [] ≡ refused_at (refusal.Row TableFull) 0)
    × (answered 0 [] ≡ refused_at refusal.Length 0)
    × (answered 0 (0 ∷ []) ≡ refused_at refusal.NotDue 0)
    × (answered 0 (0x2F ∷ []) ≡ refused_at refusal.NotDue 0)
    × (answered 0 (0xCA ∷ 0xCA ∷ []) ≡ refused_at refusal.NotDue 1)
    × (answered 0 (whole []) ≡ Ok tt)
    × (answered 1 (whole (listed ∷ [])) ≡ Ok tt)
    × (answered 1 (whole []) ≡ refused_at refusal.Length 64)
    × (answered 0 (whole (listed ∷ [])) ≡ refused_at refusal.Length 64)
    × (answered 1 (whole (bad ∷ [])) ≡ refused_at (refusal.Row BadRow) 426)
    × (answered 2 (whole (listed ∷ listed ∷ [])) ≡ refused_at (refusal.Row AddressInTable) 789)
unfolding overlay stuffed sum checksum enclosed step for_state has stored mode_legal in_range legal holds holds_in_states values_held keeps_rules with_value rows_of refill_rows fresh_table row_answer is_leap common_days days_in is_between day_valid time_valid valid date_in no_date valid_or fresh value_slots row_slots slots slot_at value_payload part_payload payload_of content_of value_contents row_contents rows_contents contents on_line lines equal took_value took_part took fresh_draft start done placed is_due frame byte accepted refused ended reading read listed bad old at answered whole
examples = (refl, refl, refl, refl, refl, refl, refl, refl, refl, refl, refl, refl, refl, refl, refl, refl, refl, refl)
