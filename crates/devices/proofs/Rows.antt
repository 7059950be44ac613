-- The rows of a table, as a list in an array with a count. Assumes nothing.
use mathlib.Core.Path.{◌≡◌, refl, sym, ap}
use mathlib.Core.Bool.{Bool, true, false, cond}
use mathlib.Core.List.{List}
use Prim.Native.Nat.{◌+◌, ◌≤◌, min}
use lib.Dec.{leb}
use lib.ListN.{length, take, set}
use borrow.Author.Tests.{leb-true, leb-false}
use Rattle.std.specs.Prelude.{Result, Ok, Err}
use Rattle.lists.proofs.Counted.{counted_cut}
use Rattle.lists.proofs.Refills.{Counted, list_most, list_full, list_room, list_snoc, refill_read}
use Rattle.devices.specs.declared.row.Row.{Row}
use Rattle.devices.specs.declared.table.Table.{Table}
use Rattle.devices.specs.declared.table.RowRefusal.{RowRefusal}
use Rattle.devices.specs.declared.table.RowRefusal.TheVariants.{TableFull}
use Rattle.devices.specs.Table.{rows_of, used_rows, refill_rows, room_answer, adding}

-- the laws of Refills hold of a table
pub table_counted : Counted (λ (t : Table). t.rows) (λ t. t.count) (λ l n. record { count = n; rows = l }) rows_of refill_rows
unfolding rows_of refill_rows
table_counted = record { array_made = λ l n. refl; count_made = λ l n. refl; list_is = λ t. refl; refill_is = λ t l. refl }

-- what is put in is what is read
pub rows_refill : (t : Table) (l : List Row) → rows_of (refill_rows t l) ≡ l
rows_refill t l = refill_read table_counted t l

-- at most so many rows are in use
pub used_most : (t : Table) → length t.rows ≡ 32 → used_rows t ≤ 32
used_most t long = list_most table_counted t 32 long

-- the rows in use stand in front
pub rows_cut : (t : Table) → length t.rows ≡ 32 → take (min t.count 32) t.rows ≡ rows_of t
unfolding rows_of
rows_cut t long = counted_cut t.count t.rows 32 long

-- the row after the last, where there is room
pub appended : (t : Table) (r : Row) → length t.rows ≡ 32
    → adding t r (room_answer (rows_of t)) ≡ cond (leb 32 t.count) (Err TableFull) (Ok (record { count = t.count + 1; rows = set t.rows t.count r }))
appended t r long = go (leb 32 t.count) refl
  where
    go : (b : Bool) → leb 32 t.count ≡ b → adding t r (room_answer (rows_of t)) ≡ cond b (Err TableFull) (Ok (record { count = t.count + 1; rows = set t.rows t.count r }))
    go true e = rw (list_full table_counted t 32 long (leb-true 32 t.count e))
    go false e =
        let room = leb-false 32 t.count e in
        let wrap : Table → Result Table RowRefusal = λ u. Ok u in
        rw (list_room table_counted t 32 long room) (sym (ap wrap (list_snoc table_counted t 32 long r room)))
