-- The place that the search for an address finds: the row there, and the row that a change by address changes. Assumes nothing.
use mathlib.Core.Path.{◌≡◌, refl, sym, ap, ◌∙◌}
use mathlib.Core.List.{List, [], ◌∷◌}
use mathlib.Core.Bool.{Bool, true, false, cond}
use mathlib.Core.Option as maybe
use Prim.Native.Nat.{ℕ, suc, ◌+◌, ◌<◌}
use native.Mathlib.Numerals.{add-one}
use lib.ListN.{length, set}
use Rattle.std.specs.Prelude.{Option, Some, None, position, is_some}
use Rattle.std.specs.List.{position_from}
use Rattle.std.proofs.lemmas.Iterator.Adapters.{position_from-zero}
use Rattle.lists.specs.Filter.{any}
use Rattle.lists.specs.Search.{place_from, change_first}
use Rattle.lists.proofs.Clash.{clash}
use Rattle.lists.proofs.Searches.{place_any, place_missing, found_at, is_place}
use Rattle.devices.specs.declared.row.Row.{Row}
use Rattle.devices.specs.Row.{blank_row}
use Rattle.devices.specs.Table.{addressed, row_of, find, row_at}

-- std's place of the first element that passes is that of `lists`
abbrev pub found : maybe.Option ℕ → Option ℕ
found maybe.none = None
found (maybe.some i) = Some i

module _ {A : Type 0} (p : A → Bool) where
  from_is : (l : List A) (k : ℕ) → position_from p k l ≡ found (place_from p l k)
  from_is [] k = refl
  from_is (x ∷ l) k = go (p x) (from_is l (suc k))
    where
      go : (b : Bool) → position_from p (suc k) l ≡ found (place_from p l (suc k)) → cond b (Some k) (position_from p (k + 1) l) ≡ found (cond b (maybe.some k) (place_from p l (suc k)))
      go true h = refl
      go false h = rw add-one h

  pub position_is : (l : List A) → position p l ≡ found (place_from p l 0)
  position_is l = position_from-zero p l ∙ from_is l 0

  pub is_at : (l : List A) (i : ℕ) → position p l ≡ Some i → place_from p l 0 ≡ maybe.some i
  is_at l i e = go (place_from p l 0) (sym (position_is l) ∙ e)
    where
      go : (o : maybe.Option ℕ) → found o ≡ Some i → o ≡ maybe.some i
      go maybe.none e = clash cc
      go (maybe.some j) e = cc

  pub is_nowhere : (l : List A) → position p l ≡ None → place_from p l 0 ≡ maybe.none
  is_nowhere l e = go (place_from p l 0) (sym (position_is l) ∙ e)
    where
      go : (o : maybe.Option ℕ) → found o ≡ None → o ≡ maybe.none
      go maybe.none e = refl
      go (maybe.some j) e = clash cc

module _ (l : List Row) (a : ℕ) where
  -- whether one is found
  pub known_is : any (addressed a) l ≡ is_some (find l a)
  unfolding find
  known_is = place_any (addressed a) l 0 ∙ go (place_from (addressed a) l 0) ∙ ap is_some (sym (position_is (addressed a) l))
    where
      go : (o : maybe.Option ℕ) → is_place o ≡ is_some (found o)
      go maybe.none = refl
      go (maybe.some i) = refl

  -- the place found
  module _ (i : ℕ) (e : find l a ≡ Some i) where
    place_is : place_from (addressed a) l 0 ≡ maybe.some i
    unfolding find
    place_is = is_at (addressed a) l i e

    pub place_inside : i < length l
    place_inside = (found_at (addressed a) l i place_is).inside

    pub place_row : row_of l a ≡ maybe.some (row_at l i)
    unfolding row_at
    place_row = (found_at (addressed a) l i place_is).element blank_row

    pub place_changed : (w : Row → Row) → change_first (addressed a) w l ≡ set l i (w (row_at l i))
    unfolding row_at
    place_changed w = (found_at (addressed a) l i place_is).changed w blank_row

  -- no place found
  module _ (e : find l a ≡ None) where
    place_none : place_from (addressed a) l 0 ≡ maybe.none
    unfolding find
    place_none = is_nowhere (addressed a) l e

    pub missing_row : row_of l a ≡ maybe.none
    missing_row = (place_missing (addressed a) l 0 place_none).element

    pub missing_unchanged : (w : Row → Row) → change_first (addressed a) w l ≡ l
    missing_unchanged w = (place_missing (addressed a) l 0 place_none).unchanged w
