-- The table of a gateway that is owned, as a loop over bytes has it at hand: its array of 32 rows, and the addresses of those in
-- use. Assumes nothing.
use Prim.Native.Nat.{ℕ, ◌≤◌, ◌<◌}
use mathlib.Core.Path.{◌≡◌, sym, ◌∙◌}
use mathlib.Core.List.{List, []}
use native.Mathlib.Omega.{arith}
use lib.ListN.{length, take, get_or}
use lib.Seq.{length-take-le}
use mir.Val.{Val}
use denote.Laws.{Is}
use Rattle.lists.proofs.Refills.{list_most, list_at}
use Rattle.devices.specs.declared.row.Row.{Row}
use Rattle.devices.specs.Row.{blank_row}
use Rattle.devices.specs.Table.{rows_of, used_rows, addresses, find, find_address, row_at}
use Rattle.devices.proofs.Addresses.{find_by_address}
use Rattle.devices.proofs.Arrays.{table_length}
use Rattle.devices.proofs.Rows.{table_counted}
use Rattle.gateway.specs.declared.gateway.Gateway.{Gateway}
use Rattle.gateway.specs.contracts.gateway.Gateway.{the_row}

pub rows_length : (g : Gateway) (vs : List Val) → Is the_row g vs → length g.table.rows ≡ 32
rows_length g vs p = table_length g.table _ p.1.1.1.0

-- the row past the last of an array, as the code reads it
abbrev pub past_row : Row
past_row = record { address = 0; version = 0; mask = 0; mode = 0; state = 0; events = 0; cool = []; slab = []; fan = [] }

-- how many rows are in use, and the array of their addresses
module _ (g : Gateway) (rows_long : length g.table.rows ≡ 32) {used : ℕ} (used_is : used ≡ used_rows g.table) {all : List ℕ} (all-is : all ≡ addresses g.table) (all-long : length all ≡ 32) where
  pub used_few : used ≤ 32
  used_few = omega (arith, used_is, list_most table_counted g.table 32 rows_long)

  pub listed_length : length (take used all) ≡ used
  listed_length = length-take-le used all (omega (arith, all-long, used_few))

  -- the addresses of the rows in use find what the rows do
  pub found_same : (a : ℕ) → find (rows_of g.table) a ≡ find_address (take used all) a
  found_same a = find_by_address g.table a ∙ (λ k. find_address (take (sym used_is k) (sym all-is k)) a)

  -- the row at a place of theirs
  pub row_read : (i : ℕ) → i < length (take used all) → get_or g.table.rows i past_row ≡ row_at (rows_of g.table) i
  unfolding row_at
  row_read i h = list_at table_counted g.table 32 rows_long i past_row blank_row (omega (arith, h, listed_length, used_is))

-- all of these, of a gateway that is owned
pub record Listed (g : Gateway) (used : ℕ) (all : List ℕ) : Type 0 where
  pub few : used ≤ 32
  pub many : length (take used all) ≡ used
  pub same : (a : ℕ) → find (rows_of g.table) a ≡ find_address (take used all) a
  pub row_is : (i : ℕ) → i < length (take used all) → get_or g.table.rows i past_row ≡ row_at (rows_of g.table) i

pub listed : (g : Gateway) (vs : List Val) → Is the_row g vs → {used : ℕ} → used ≡ used_rows g.table → {all : List ℕ} → all ≡ addresses g.table → length all ≡ 32 → Listed g used all
listed g vs p used_is all_is all_long =
    let rows_long = rows_length g vs p in
    record {
      few = used_few g rows_long used_is all_is all_long;
      many = listed_length g rows_long used_is all_is all_long;
      same = found_same g rows_long used_is all_is all_long;
      row_is = row_read g rows_long used_is all_is all_long;
    }
