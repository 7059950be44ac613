-- The frame at a place of the whole list: of the values, or of the row and the place that quotient and remainder by 26 name.
-- Assumes nothing.
use mathlib.Core.Path.{◌≡◌, refl, sym, ap, ◌∙◌}
use mathlib.Core.Bool.{Bool, true, false}
use mathlib.Core.List.{List, [], ◌∷◌, ◌++◌, map, append-nil, append_assoc}
use Prim.Native.Nat.{ℕ, zero, suc, ◌+◌, ◌-◌, ◌*◌, ◌/◌, ◌%◌, ◌<◌, ◌≤◌}
use native.Mathlib.Omega.{arith}
use native.Mathlib.Nat.{not-suc-le-zero, mod-eq_of_lt, div-eq_of_lt, mod-eq-sub-mod, div-eq-sub-div}
use lib.Dec.{ltb}
use borrow.Author.Tests.{ltb-true, ltb-false}
use lib.ListN.{length, get_or, length-append, length-map, get_or-append, get_or-eq_default}
use lib.Seq.{get_or-append-add}
use Rattle.lists.proofs.Counted.{get_d_any}
use Rattle.devices.specs.declared.row.Row.{Row}
use Rattle.devices.specs.Row.{blank_row}
use Rattle.devices.specs.Table.{row_at}
use Rattle.trpc.specs.declared.properties.Properties.{Properties}
use Rattle.transfer.specs.declared.slots.Slot.{Slot}
use Rattle.transfer.specs.Slots.{value_slots, row_slots, slots, slot_at}
use Rattle.transfer.specs.Contents.{draft, content_of, payload_of, value_contents, row_contents, rows_contents, contents, lines}
use Rattle.gateway.specs.Reply.{on_line}
use Rattle.transfer.proofs.Widths.{content_few}
use Rattle.transfer.proofs.Listed.{thirty_one, five, twenty_six}

-- the element of a mapped list
get_d_map : {A B : Type 0} (f : A → B) (l : List A) (i : ℕ) (d : A) (e : B) → i < length l → get_or (map f l) i e ≡ f (get_or l i d)
get_d_map f [] i d e h = absurd (not-suc-le-zero h)
get_d_map f (x ∷ l) zero d e h = refl
get_d_map f (x ∷ l) (suc i) d e h = get_d_map f l i d e (omega arith)

-- the places of the list of 31
pub slot_here : (i : ℕ) → i < 31 → (d : Slot) → slot_at i ≡ get_or slots i d
unfolding slot_at
slot_here i h d = get_d_any slots i _ d (omega (arith, thirty_one))

pub slot_of_row : (i : ℕ) → i < 26 → (d : Slot) → slot_at (5 + i) ≡ get_or row_slots i d
unfolding slots
slot_of_row i h d = slot_here (5 + i) (omega arith) d ∙ get_or-append-add value_slots row_slots i d

row_length : (g : Properties) (r : Row) → length (row_contents g r) ≡ 26
unfolding row_contents
row_length g r = length-map row_slots (content_of (draft g r)) ∙ twenty_six

pub rows_length : (g : Properties) (l : List Row) → length (rows_contents g l) ≡ 26 * length l
unfolding rows_contents
rows_length g [] = refl
rows_length g (r ∷ l) = omega (arith, length-append (row_contents g r) (rows_contents g l), row_length g r, rows_length g l)

value_length : (g : Properties) → length (value_contents g) ≡ 5
unfolding value_contents
value_length g = length-map value_slots (content_of (draft g blank_row)) ∙ five

pub contents_length : (g : Properties) (l : List Row) → length (contents g l) ≡ 5 + 26 * length l
unfolding contents
contents_length g l = omega (arith, length-append (value_contents g) (rows_contents g l), value_length g, rows_length g l)

-- of a row
in_row : (g : Properties) (r : Row) (k : ℕ) → k < 26 → get_or (row_contents g r) k [] ≡ content_of (draft g r) (slot_at (5 + k))
unfolding row_contents
in_row g r k h =
    get_d_map (content_of (draft g r)) row_slots k (slot_at 0) [] (omega (arith, twenty_six))
    ∙ ap (content_of (draft g r)) (sym (slot_of_row k h (slot_at 0)))

in_rows : (g : Properties) (l : List Row) (k : ℕ) → k < 26 * length l
    → get_or (rows_contents g l) k [] ≡ content_of (draft g (row_at l (k / 26))) (slot_at (5 + k % 26))
unfolding rows_contents row_at
in_rows g [] k h = absurd (omega arith)
in_rows g (r ∷ l) k h = go (ltb k 26) refl (in_rows g l (k - 26))
  where
    further : (n : ℕ) → n ≡ (k - 26) / 26 + 1 → get_or (r ∷ l) n blank_row ≡ get_or l ((k - 26) / 26) blank_row
    further n e = let m : n ≡ suc ((k - 26) / 26) = omega arith in rw m

    go : (t : Bool) → ltb k 26 ≡ t
        → (k - 26 < 26 * length l → get_or (rows_contents g l) (k - 26) [] ≡ content_of (draft g (get_or l ((k - 26) / 26) blank_row)) (slot_at (5 + (k - 26) % 26)))
        → get_or (row_contents g r ++ rows_contents g l) k [] ≡ content_of (draft g (get_or (r ∷ l) (k / 26) blank_row)) (slot_at (5 + k % 26))
    go true e ih =
        let small : k < 26 = omega (arith, ltb-true) in
        get_or-append (row_contents g r) (rows_contents g l) [] k (omega (arith, row_length g r))
        ∙ in_row g r k small
        ∙ rw (div-eq_of_lt small, mod-eq_of_lt small)
    go false e ih =
        let big : 26 ≤ k = omega (arith, ltb-false) in
        let at : k ≡ length (row_contents g r) + (k - 26) = omega (arith, row_length g r) in
        ap (λ (n : ℕ). get_or (row_contents g r ++ rows_contents g l) n []) at
        ∙ get_or-append-add (row_contents g r) (rows_contents g l) (k - 26) []
        ∙ ih (omega arith)
        ∙ ap (λ (q : Row). content_of (draft g q) (slot_at (5 + (k - 26) % 26))) (sym (further (k / 26) (div-eq-sub-div (omega arith) big)))
        ∙ ap (λ (n : ℕ). content_of (draft g (get_or (r ∷ l) (k / 26) blank_row)) (slot_at (5 + n))) (sym (mod-eq-sub-mod big))

-- of the values, with any row
in_values : (g : Properties) (q : Row) (k : ℕ) → k < 5 → get_or (value_contents g) k [] ≡ content_of (draft g q) (slot_at k)
unfolding value_contents content_of payload_of slot_at slots value_slots row_slots
in_values g q zero h = refl
in_values g q (suc zero) h = refl
in_values g q (suc (suc zero)) h = refl
in_values g q (suc (suc (suc zero))) h = refl
in_values g q (suc (suc (suc (suc zero)))) h = refl
in_values g q (suc (suc (suc (suc (suc k))))) h = absurd (omega arith)

module _ (g : Properties) (l : List Row) (k : ℕ) where
  pub place_of_value : (q : Row) → k < 5 → get_or (contents g l) k [] ≡ content_of (draft g q) (slot_at k)
  unfolding contents
  place_of_value q h = get_or-append (value_contents g) (rows_contents g l) [] k (omega (arith, value_length g)) ∙ in_values g q k h

  pub place_of_row : 5 ≤ k → k < 5 + 26 * length l
      → get_or (contents g l) k [] ≡ content_of (draft g (row_at l ((k - 5) / 26))) (slot_at (5 + (k - 5) % 26))
  unfolding contents
  place_of_row low high =
      let at : k ≡ length (value_contents g) + (k - 5) = omega (arith, value_length g) in
      ap (λ (n : ℕ). get_or (value_contents g ++ rows_contents g l) n []) at
      ∙ get_or-append-add (value_contents g) (rows_contents g l) (k - 5) []
      ∙ in_rows g l (k - 5) (omega arith)

  -- on the line, within the list and past it
  pub line_within : k < 5 + 26 * length l → get_or (lines g l) k [] ≡ on_line (get_or (contents g l) k [])
  unfolding lines
  line_within h = get_d_map on_line (contents g l) k [] [] (omega (arith, contents_length g l))

  pub line_past : 5 + 26 * length l ≤ k → get_or (lines g l) k [] ≡ []
  unfolding lines
  line_past h = get_or-eq_default (map on_line (contents g l)) [] {n = k} (omega (arith, contents_length g l, length-map (contents g l) on_line))

  pub content_short : k < 5 + 26 * length l → length (get_or (contents g l) k []) ≤ 12
  content_short h = go (ltb k 5) refl
    where
      go : (t : Bool) → ltb k 5 ≡ t → length (get_or (contents g l) k []) ≤ 12
      go true e = let low : k < 5 = omega (arith, ltb-true) in rw (place_of_value blank_row low) (content_few (draft g blank_row) (slot_at k))
      go false e =
          let high : 5 ≤ k = omega (arith, ltb-false) in
          rw (place_of_row high h) (content_few (draft g (row_at l ((k - 5) / 26))) (slot_at (5 + (k - 5) % 26)))

pub slot_of_value : (k : ℕ) → k < 5 → (d : Slot) → slot_at k ≡ get_or value_slots k d
unfolding slots
slot_of_value k h d = slot_here k (omega arith) d ∙ get_or-append value_slots row_slots d k (omega (arith, five))

-- a row more
pub rows_snoc : (g : Properties) (l : List Row) (r : Row) → rows_contents g (l ++ r ∷ []) ≡ rows_contents g l ++ row_contents g r
unfolding rows_contents
rows_snoc g [] r = append-nil (row_contents g r)
rows_snoc g (x ∷ l) r = ap (λ (z : List (List ℕ)). row_contents g x ++ z) (rows_snoc g l r) ∙ sym (append_assoc (row_contents g x) (rows_contents g l) (row_contents g r))

-- a frame of the row at a place, by its number within the row
at_row : (g : Properties) (l : List Row) (i k : ℕ) → i < length l → k < 26 → get_or (rows_contents g l) (26 * i + k) [] ≡ content_of (draft g (row_at l i)) (slot_at (5 + k))
unfolding rows_contents row_at
at_row g [] i k h m = absurd (not-suc-le-zero h)
at_row g (r ∷ l) zero k h m =
    let e : 26 * 0 + k ≡ k = omega arith in
    rw e (get_or-append (row_contents g r) (rows_contents g l) [] k (omega (arith, row_length g r)) ∙ in_row g r k m)
at_row g (r ∷ l) (suc i) k h m =
    let e : 26 * suc i + k ≡ length (row_contents g r) + (26 * i + k) = omega (arith, row_length g r) in
    rw e (get_or-append-add (row_contents g r) (rows_contents g l) (26 * i + k) [] ∙ at_row g l i k (omega arith) m)

pub place_in_row : (g : Properties) (l : List Row) (i k : ℕ) → i < length l → k < 26
    → get_or (contents g l) (5 + (26 * i + k)) [] ≡ content_of (draft g (row_at l i)) (slot_at (5 + k))
unfolding contents
place_in_row g l i k h m =
    let e : 5 + (26 * i + k) ≡ length (value_contents g) + (26 * i + k) = omega (arith, value_length g) in
    rw e (get_or-append-add (value_contents g) (rows_contents g l) (26 * i + k) [] ∙ at_row g l i k h m)
