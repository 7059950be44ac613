-- Where a place that was looked for lies: the steps of a loop that looks for it, and that it is the first. Assumes nothing.
use Prim.Native.Nat.{ℕ, suc, ◌+◌, ◌-◌, ◌≤◌, ◌<◌}
use mathlib.Core.Path.{◌≡◌, refl}
use mathlib.Core.Bool.{Bool, true, false, cond}
use mathlib.Core.Option.{some}
use mathlib.Core.List.{List, [], ◌∷◌}
use native.Mathlib.Omega.{arith}
use borrow.Author.Tests.{eqb-true, leb-true, leb-false}
use lib.Dec.{eqb, leb}
use lib.ListN.{length, take, drop, get_or, length-drop}
use Rattle.lists.specs.Filter.{All}
use Rattle.lists.specs.Search.{place_from}
use Rattle.lists.proofs.Searches.{place_end, place_hit, place_pass}
use Rattle.text.specs.Slices.{place_or, place_where, place_of}

module _ (p : ℕ → Bool) (l : List ℕ) (i : ℕ) where
  pub where_end : length l ≤ i → place_where p l i ≡ length l
  unfolding place_where
  where_end h = rw (place_end p l i h)

  module _ (h : i < length l) where
    pub where_hit : p (get_or l i 0) ≡ true → place_where p l i ≡ i
    unfolding place_where
    where_hit e = rw (place_hit p l i 0 h e)

    pub where_pass : p (get_or l i 0) ≡ false → place_where p l i ≡ place_where p l (i + 1)
    unfolding place_where
    where_pass e = rw (place_pass p l i 0 h e)

-- a place that is found lies after the start and within the list
module _ (p : ℕ → Bool) where
  found_between : (l : List ℕ) (k : ℕ) → (k ≤ place_or (k + length l) (place_from p l k)) × (place_or (k + length l) (place_from p l k) ≤ k + length l)
  found_between [] k = (omega arith, omega arith)
  found_between (x ∷ l) k = go (p x) (found_between l (suc k))
    where
      go : (t : Bool) → (suc k ≤ place_or (suc k + length l) (place_from p l (suc k))) × (place_or (suc k + length l) (place_from p l (suc k)) ≤ suc k + length l)
          → (k ≤ place_or (k + suc (length l)) (cond t (some k) (place_from p l (suc k)))) × (place_or (k + suc (length l)) (cond t (some k) (place_from p l (suc k))) ≤ k + suc (length l))
      go true h = (omega arith, omega arith)
      go false h = let e : k + suc (length l) ≡ suc k + length l = omega arith in rw e (omega (arith, h.0), h.1)

  pub where_between : (l : List ℕ) (at : ℕ) → at ≤ length l → (at ≤ place_where p l at) × (place_where p l at ≤ length l)
  unfolding place_where
  where_between l at h =
      let e : at + length (drop at l) ≡ length l = omega (arith, length-drop at l) in
      rw e at (found_between (drop at l) at)

  -- from a place past the end on too
  pub where_within : (l : List ℕ) (at : ℕ) → place_where p l at ≤ length l
  where_within l at = go (leb at (length l)) refl
    where
      go : (t : Bool) → leb at (length l) ≡ t → place_where p l at ≤ length l
      go true e = (where_between l at (leb-true at (length l) e)).1
      go false e = rw (where_end p l at (omega (arith, leb-false at (length l) e))) (omega arith)

-- a place that was looked for lies between the start and the end
pub place_between : (b : ℕ) (l : List ℕ) (at : ℕ) {r : ℕ} → r ≡ place_of b l at → at ≤ length l → (at ≤ r) × (r ≤ length l)
place_between b l at e h = rw e (where_between (λ x. eqb x b) l at h)

-- no element before the place passes, and the one there does
first_from : (p : ℕ → Bool) (l : List ℕ) (k : ℕ)
    → All (λ x. p x ≡ false) (take (place_or (k + length l) (place_from p l k) - k) l)
    × (place_or (k + length l) (place_from p l k) - k < length l → p (get_or l (place_or (k + length l) (place_from p l k) - k) 0) ≡ true)
first_from p [] k = (let e : (k + 0) - k ≡ 0 = omega arith in rw e tt, λ h. absurd (omega arith))
first_from p (x ∷ l) k = go (p x) refl (found_between p l (suc k)).0 (first_from p l (suc k))
  where
    rest : ℕ
    rest = place_or (suc k + length l) (place_from p l (suc k))

    go : (t : Bool) → p x ≡ t → suc k ≤ rest → All (λ y. p y ≡ false) (take (rest - suc k) l) × (rest - suc k < length l → p (get_or l (rest - suc k) 0) ≡ true)
        → All (λ y. p y ≡ false) (take (place_or (k + suc (length l)) (cond t (some k) (place_from p l (suc k))) - k) (x ∷ l))
        × (place_or (k + suc (length l)) (cond t (some k) (place_from p l (suc k))) - k < suc (length l)
        → p (get_or (x ∷ l) (place_or (k + suc (length l)) (cond t (some k) (place_from p l (suc k))) - k) 0) ≡ true)
    go true e h i = let z : k - k ≡ 0 = omega arith in rw z (tt, λ _. e)
    go false e h i =
        let same : k + suc (length l) ≡ suc k + length l = omega arith in
        let z : rest - k ≡ suc (rest - suc k) = omega arith in
        rw (same, z) ((e, i.0), λ less. i.1 (omega arith))

-- a byte that was looked for from the start on: it does not stand before its place, and stands there
pub place_first : (b : ℕ) (l : List ℕ) {r : ℕ} → r ≡ place_of b l 0 → All (λ x. eqb x b ≡ false) (take r l) × (r < length l → get_or l r 0 ≡ b)
unfolding place_where
place_first b l {r} e =
    let f = first_from (λ x. eqb x b) l 0 in
    let z : 0 + length l ≡ length l = omega arith in
    let y : place_or (length l) (place_from (λ x. eqb x b) l 0) - 0 ≡ place_or (length l) (place_from (λ x. eqb x b) l 0) = omega arith in
    rw e (rw (z, y) at f.0, λ h. eqb-true (get_or l (place_or (length l) (place_from (λ x. eqb x b) l 0)) 0) b ((rw (z, y) at f.1) h))
