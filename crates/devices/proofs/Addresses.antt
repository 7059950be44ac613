-- The addresses of a table's rows as a list by itself: one row more, and the search in it, which finds the place of the row.
-- Assumes nothing.
use mathlib.Core.Path.{◌≡◌, sym, ap, ◌∙◌}
use mathlib.Core.List.{List, [], ◌∷◌, ◌++◌, map}
use Prim.Native.Nat.{ℕ, ◌+◌, ◌<◌, ◌≤◌}
use lib.Dec.{eqb}
use lib.ListN.{length, take, get_or, replicate, length-map}
use lib.Seq.{take_all}
use Rattle.std.specs.Prelude.{Some}
use Rattle.lists.specs.Overlay.{overlay}
use Rattle.lists.proofs.Counted.{take_next}
use Rattle.lists.proofs.Filters.{map-append}
use Rattle.lists.proofs.Overlays.{overlay_take}
use Rattle.lists.proofs.Searches.{place_map, found_at}
use Rattle.devices.specs.declared.row.Row.{Row}
use Rattle.devices.specs.declared.table.Table.{Table}
use Rattle.devices.proofs.Places.{found, position_is, is_at}
use Rattle.devices.specs.Table.{table_places, rows_of, used_rows, addresses, addressed, find, find_address}

-- the addresses of some rows
abbrev pub column : List Row → List ℕ
column l = map (λ r. r.address) l

-- the first i rows, then one more
pub column_next : (l : List Row) (i : ℕ) (d : Row) → i < length l
    → column (take (i + 1) l) ≡ column (take i l) ++ ((get_or l i d).address ∷ [])
column_next l i d h = ap column (take_next l i d h) ∙ map-append (λ r. r.address) (take i l) (get_or l i d ∷ [])

-- all of them
pub column_all : (t : Table) (i : ℕ) → used_rows t ≤ i → overlay (column (take i (rows_of t))) (replicate table_places 0) ≡ addresses t
unfolding addresses
column_all t i h = rw (take_all i (rows_of t) h)

-- the place of a row is the place of its address
pub find_in_column : (l : List Row) (a : ℕ) → find l a ≡ find_address (map (λ r. r.address) l) a
unfolding find find_address
find_in_column l a =
    position_is (addressed a) l
    ∙ sym (ap found (place_map (λ x. eqb x a) (λ r. r.address) l 0))
    ∙ sym (position_is (λ x. eqb x a) (map (λ r. r.address) l))

-- so the search may go by the list of addresses, as far as rows are in use
pub find_by_address : (t : Table) (a : ℕ) → find (rows_of t) a ≡ find_address (take (used_rows t) (addresses t)) a
unfolding addresses
find_by_address t a =
    let used = sym (length-map (rows_of t) (λ r. r.address)) in
    let front = ap (λ (n : ℕ). take n (addresses t)) used ∙ overlay_take (column (rows_of t)) (replicate table_places 0) in
    find_in_column (rows_of t) a ∙ ap (λ (l : List ℕ). find_address l a) (sym front)

-- the place found is one of the list
pub address_inside : (l : List ℕ) (a i : ℕ) → find_address l a ≡ Some i → i < length l
unfolding find_address
address_inside l a i e = (found_at (λ x. eqb x a) l i (is_at (λ x. eqb x a) l i e)).inside
