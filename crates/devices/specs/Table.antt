-- The device table: its rows, the search by address, adding a row, and storing a value. Each is said of the list of rows, and
-- put into the table's struct by `refill_rows`.
use Rattle.std.specs.Prelude.{ℕ, List, [], ◌∷◌, ◌++◌, map, Bool, true, false, not, cond, length, take, get_or, replicate, position, leb, eqb, Option, Some, None, Result, Ok, Err}
use Rattle.std.proofs.Math.Option as maybe
use Rattle.lists.specs.Overlay.{overlay}
use Rattle.lists.specs.Filter.{any}
use Rattle.lists.specs.Search.{first, change_first}
use Rattle.devices.specs.declared.field.Field.{Field}
use Rattle.devices.specs.declared.field.Setting.{Setting}
use Rattle.devices.specs.declared.row.Row.{Row}
use Rattle.devices.specs.declared.table.Table.{Table}
use Rattle.devices.specs.declared.table.RowRefusal.{RowRefusal}
use Rattle.devices.specs.declared.table.RowRefusal.TheVariants.{BadRow, AddressInTable, TableFull}
use Rattle.devices.specs.Field.{setting}
use Rattle.devices.specs.Row.{not_available, in_force, legal, keeps_rules, with_value, blank_row}

-- (01) how many rows a table has room for
abbrev pub table_places : ℕ
table_places = 32

-- (01) the rows in use, in the order added; (ours, D-43) a count over the places counts as the places
unfoldable pub rows_of : Table → List Row
rows_of t = take t.count t.rows

-- (ours, D-43) the table with other rows in use; the places after them stay
unfoldable pub refill_rows : Table → List Row → Table
refill_rows t l = record { count = length l; rows = overlay l t.rows }

-- (01) how many rows are in use
abbrev pub used_rows : Table → ℕ
used_rows t = length (rows_of t)

-- (ours) the addresses of the rows in use, in the order added; zeros at the places after them
unfoldable pub addresses : Table → List ℕ
addresses t = overlay (map (λ r. r.address) (rows_of t)) (replicate table_places 0)

-- (01) no rows
unfoldable pub fresh_table : Table
fresh_table = record { count = 0; rows = replicate table_places blank_row }

-- (01) the row has the address
abbrev pub addressed : ℕ → Row → Bool
addressed a r = eqb r.address a

-- (01) the row of an address; (ours, D-36) the first, where several have it
abbrev pub row_of : List Row → ℕ → maybe.Option Row
row_of l a = first (addressed a) l

-- (ours) the place of the first row with the address, from 0
unfoldable pub find : List Row → ℕ → Option ℕ
find l a = position (addressed a) l

-- (ours) the place of the first of the addresses that is the address, from 0
unfoldable pub find_address : List ℕ → ℕ → Option ℕ
find_address l a = position (λ x. eqb x a) l

-- (ours, D-43) the row at a place; zeros past the last
unfoldable pub row_at : List Row → ℕ → Row
row_at l i = get_or l i blank_row

-- (01) the numbers of the refusals
abbrev pub row_number : RowRefusal → ℕ
row_number BadRow = 19
row_number AddressInTable = 20
row_number TableFull = 21

-- (01) whether there is room for a row: check 21
abbrev pub room_answer : List Row → Result (Unit {0}) RowRefusal
room_answer l = cond (leb table_places (length l)) (Err TableFull) (Ok tt)

-- (01) whether the row is added: checks 19, then 20, then 21
unfoldable pub row_answer : List Row → Row → Result (Unit {0}) RowRefusal
row_answer l r = cond (not (keeps_rules r)) (Err BadRow) (cond (any (addressed r.address) l) (Err AddressInTable) (room_answer l))

-- (01) the row after the last; a refused row makes no other table
abbrev pub adding : Table → Row → Result (Unit {0}) RowRefusal → Result Table RowRefusal
adding t r (Ok u) = Ok (refill_rows t (rows_of t ++ (r ∷ [])))
adding t r (Err e) = Err e

-- (01) a row is added where checks 19 to 21 pass
abbrev pub add : Table → Row → Result Table RowRefusal
add t r = adding t r (row_answer (rows_of t) r)

-- (01) legal for the field's row, where there is one; (ours, D-40) with no row nothing is
abbrev pub accepted_by : maybe.Option Row → Field → ℕ → Bool
accepted_by maybe.none f v = false
accepted_by (maybe.some r) f v = legal r (setting f) v

-- (01) the device of the field may answer with the value; (ours, D-40) an address with no row accepts none
unfoldable pub accepts : List Row → Field → ℕ → Bool
accepts l f v = accepted_by (row_of l f.address) f v

-- (01) the rows with the value in the field, in the row of its address and in no other
unfoldable pub store : List Row → Field → ℕ → List Row
store l f v = change_first (addressed f.address) (λ r. with_value r (setting f) v) l

-- (01) a legal value is stored; another makes no other table
abbrev pub store_if : Table → Field → ℕ → (legal : Bool) → Option Table
store_if t f v true = Some (refill_rows t (store (rows_of t) f v))
store_if t f v false = None

-- (01) the table with the value in the field, where the field's device accepts it
unfoldable pub store_legal : Table → Field → ℕ → Option Table
store_legal t f v = store_if t f v (accepts (rows_of t) f v)

-- (01) the value in force, where there is a row; (ours, D-40) with no row it is not available
abbrev pub value_in : maybe.Option Row → Setting → ℕ
value_in maybe.none x = not_available
value_in (maybe.some r) x = in_force r x

-- (01) the value in force of a field: what a Request for it shows
unfoldable pub value_of : List Row → Field → ℕ
value_of l f = value_in (row_of l f.address) (setting f)
