-- The frames taken so far are the first of the list, for the values and the row as they now are. Assumes nothing.
use mathlib.Core.Path.{◌≡◌, refl, sym, ap, ◌∙◌}
use mathlib.Core.Bool.{Bool, true, false}
use mathlib.Core.List.{List, [], ◌∷◌, ◌++◌, map, append-nil, append_assoc}
use Prim.Native.Nat.{ℕ, suc, ◌+◌, ◌<◌, ◌≤◌}
use native.Mathlib.Omega.{arith}
use native.Mathlib.Numerals.{add-one}
use lib.Dec.{ltb}
use borrow.Author.Tests.{ltb-true, ltb-false}
use lib.ListN.{get_or, take}
use lib.Seq.{take-suc}
use Rattle.devices.specs.declared.row.Row.{Row}
use Rattle.trpc.specs.declared.properties.Properties.{Properties}
use Rattle.transfer.specs.declared.draft.Draft.{Draft}
use Rattle.transfer.specs.Slots.{value_slots, row_slots, slot_at}
use Rattle.transfer.specs.Contents.{payload_of, content_of, value_contents, row_contents, rows_contents, contents}
use Rattle.transfer.specs.Carry.{took}
use Rattle.transfer.proofs.Listed.{five, twenty_six}
use Rattle.transfer.proofs.Placing.{slot_of_value, slot_of_row, rows_snoc}
use Rattle.transfer.proofs.Earlier.{values_kept, row_kept, properties_kept}

pub data Progress (d : Draft) (l : List Row) (k : ℕ) (cs : List (List ℕ)) : Type 0 where
  in_values : k < 5 → l ≡ [] → cs ≡ map (content_of d) (take k value_slots) → Progress d l k cs
  in_row : (j : ℕ) → j < 26 → k ≡ 5 + j → cs ≡ contents d.properties l ++ map (content_of d) (take j row_slots) → Progress d l k cs

map_snoc : {A B : Type 0} (f : A → B) (l : List A) (x : A) → map f (l ++ x ∷ []) ≡ map f l ++ f x ∷ []
map_snoc f [] x = refl
map_snoc f (y ∷ l) x = ap (λ (z : List _). f y ∷ z) (map_snoc f l x)

module _ (d : Draft) (c : List ℕ) where
  -- one more of the values
  values_more : (k : ℕ) → k < 5 → c ≡ content_of (took d (slot_at k).item c) (slot_at k)
      → map (content_of d) (take k value_slots) ++ c ∷ [] ≡ map (content_of (took d (slot_at k).item c)) (take (suc k) value_slots)
  values_more k h e =
      let n = took d (slot_at k).item c in
      let x = slot_at k in
      ap (λ (z : List (List ℕ)). z ++ c ∷ []) (sym (values_kept d c k h))
      ∙ ap (λ (z : List ℕ). map (content_of n) (take k value_slots) ++ z ∷ []) (e ∙ ap (content_of n) (slot_of_value k h x))
      ∙ sym (map_snoc (content_of n) (take k value_slots) (get_or value_slots k x))
      ∙ ap (map (content_of n)) (sym (take-suc value_slots k x (omega (arith, five))))

  -- and of a row
  row_more : (j : ℕ) → j < 26 → c ≡ content_of (took d (slot_at (5 + j)).item c) (slot_at (5 + j))
      → map (content_of d) (take j row_slots) ++ c ∷ [] ≡ map (content_of (took d (slot_at (5 + j)).item c)) (take (suc j) row_slots)
  row_more j h e =
      let n = took d (slot_at (5 + j)).item c in
      let x = slot_at (5 + j) in
      ap (λ (z : List (List ℕ)). z ++ c ∷ []) (sym (row_kept d c j h))
      ∙ ap (λ (z : List ℕ). map (content_of n) (take j row_slots) ++ z ∷ []) (e ∙ ap (content_of n) (slot_of_row j h x))
      ∙ sym (map_snoc (content_of n) (take j row_slots) (get_or row_slots j x))
      ∙ ap (map (content_of n)) (sym (take-suc row_slots j x (omega (arith, twenty_six))))

all_values : (d : Draft) → map (content_of d) (take 5 value_slots) ≡ contents d.properties []
unfolding value_slots content_of payload_of contents value_contents rows_contents
all_values d = refl

all_row : (d : Draft) → map (content_of d) (take 26 row_slots) ≡ row_contents d.properties d.row
unfolding row_slots row_contents
all_row d = refl

pub contents_snoc : (g : Properties) (l : List Row) (r : Row) → contents g l ++ row_contents g r ≡ contents g (l ++ r ∷ [])
unfolding contents
contents_snoc g l r =
    append_assoc (value_contents g) (rows_contents g l) (row_contents g r)
    ∙ ap (λ (z : List (List ℕ)). value_contents g ++ z) (sym (rows_snoc g l r))

module _ (d : Draft) (l : List Row) (cs : List (List ℕ)) (c : List ℕ) where
  -- the whole list with a part of a row more
  with_row : (j : ℕ) → j < 26 → cs ≡ contents d.properties l ++ map (content_of d) (take j row_slots) → c ≡ content_of (took d (slot_at (5 + j)).item c) (slot_at (5 + j))
      → cs ++ c ∷ [] ≡ contents (took d (slot_at (5 + j)).item c).properties l ++ map (content_of (took d (slot_at (5 + j)).item c)) (take (suc j) row_slots)
  with_row j h q e =
      let n = took d (slot_at (5 + j)).item c in
      ap (λ (z : List (List ℕ)). z ++ c ∷ []) q
      ∙ append_assoc (contents d.properties l) (map (content_of d) (take j row_slots)) (c ∷ [])
      ∙ ap (λ (z : List (List ℕ)). contents d.properties l ++ z) (row_more d c j h e)
      ∙ ap (λ (g : Properties). contents g l ++ map (content_of n) (take (suc j) row_slots)) (sym (properties_kept d c j h))

  pub one_more : (k : ℕ) → Progress d l k cs → c ≡ content_of (took d (slot_at k).item c) (slot_at k) → k < 30
      → Progress (took d (slot_at k).item c) l (k + 1) (cs ++ c ∷ [])
  one_more k (in_values h z q) e m = go (ltb k 4) refl
    where
      go : (t : Bool) → ltb k 4 ≡ t → Progress (took d (slot_at k).item c) l (k + 1) (cs ++ c ∷ [])
      go true t =
          let s = ltb-true k 4 t in
          in_values (omega arith) z (ap (λ (y : List (List ℕ)). y ++ c ∷ []) q ∙ values_more d c k h e ∙ ap (λ (i : ℕ). map (content_of (took d (slot_at k).item c)) (take i value_slots)) (sym (add-one k)))
      go false t =
          let s = ltb-false k 4 t in
          let four : k ≡ 4 = omega arith in
          let n = took d (slot_at k).item c in
          in_row 0 (omega arith) (omega arith)
          (ap (λ (y : List (List ℕ)). y ++ c ∷ []) q
          ∙ values_more d c k h e
          ∙ ap (λ (i : ℕ). map (content_of n) (take (suc i) value_slots)) four
          ∙ all_values n
          ∙ ap (contents n.properties) (sym z)
          ∙ sym (append-nil (contents n.properties l)))
  one_more k (in_row j h z q) e m =
      let e' : c ≡ content_of (took d (slot_at (5 + j)).item c) (slot_at (5 + j)) = e ∙ ap (λ (i : ℕ). content_of (took d (slot_at i).item c) (slot_at i)) z in
      let r = with_row j h q e' in
      in_row (suc j) (omega arith) (omega arith)
      (r ∙ ap (λ (i : ℕ). contents (took d (slot_at i).item c).properties l ++ map (content_of (took d (slot_at i).item c)) (take (suc j) row_slots)) (sym z))

  pub last_one : (k : ℕ) → Progress d l k cs → c ≡ content_of (took d (slot_at k).item c) (slot_at k) → 30 ≤ k
      → Progress (took d (slot_at k).item c) (l ++ (took d (slot_at k).item c).row ∷ []) 5 (cs ++ c ∷ [])
  last_one k (in_values h z q) e m = absurd (omega arith)
  last_one k (in_row j h z q) e m =
      let e' : c ≡ content_of (took d (slot_at (5 + j)).item c) (slot_at (5 + j)) = e ∙ ap (λ (i : ℕ). content_of (took d (slot_at i).item c) (slot_at i)) z in
      let n = took d (slot_at k).item c in
      let r : cs ++ c ∷ [] ≡ contents n.properties l ++ map (content_of n) (take (suc j) row_slots) =
      with_row j h q e' ∙ ap (λ (i : ℕ). contents (took d (slot_at i).item c).properties l ++ map (content_of (took d (slot_at i).item c)) (take (suc j) row_slots)) (sym z) in
      let twenty-five : j ≡ 25 = omega arith in
      in_row 0 (omega arith) refl
      (r ∙ ap (λ (i : ℕ). contents n.properties l ++ map (content_of n) (take (suc i) row_slots)) twenty-five
      ∙ ap (λ (y : List (List ℕ)). contents n.properties l ++ y) (all_row n)
      ∙ contents_snoc n.properties l n.row
      ∙ sym (append-nil (contents n.properties (l ++ n.row ∷ []))))
