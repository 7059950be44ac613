-- Loops over a list, with any state and any output: the outputs of no element, of one, of parts and of one element more. Assumes
-- nothing.
use Prim.Native.Nat.{ℕ, suc, ◌+◌, ◌-◌, ◌*◌, ◌≤◌, ◌<◌, min, max}
use mathlib.Core.Path.{◌≡◌, refl, sym, ◌∙◌, ap}
use mathlib.Core.List.{List, [], ◌∷◌, ◌++◌, append_assoc, append-nil, foldl, foldl-append}
use native.Mathlib.Nat.{suc-mul}
use native.Mathlib.Numerals.{add-one}
use native.Mathlib.Omega.{arith}
use lib.ListN.{length, take, get_or, length-append}
use lib.Seq.{sets, take-suc, take_all, length-take-le, length-sets}
use Rattle.lists.specs.Outputs.{outputs}
use Rattle.lists.proofs.Stores.{sets_append}

-- the state after one element more
pub state_next : {S A : Type 0} (next : S → A → S) (s : S) (l : List A) (i : ℕ) (d : A) → i < length l
    → foldl next s (take (i + 1) l) ≡ next (foldl next s (take i l)) (get_or l i d)
state_next next s l i d more = rw (add-one, take-suc l i d more, foldl-append next s (take i l) (get_or l i d ∷ []))

module _ {S A B : Type 0} (next : S → A → S) (out : ℕ → S → A → List B) where
  pub outputs_nil : (i : ℕ) (s : S) → outputs next out i s [] ≡ []
  unfolding outputs
  outputs_nil i s = refl

  pub outputs_one : (i : ℕ) (s : S) (x : A) → outputs next out i s (x ∷ []) ≡ out i s x
  unfolding outputs
  outputs_one i s x = append-nil (out i s x)

  -- of two parts: the second starts in the state and at the place that the first leaves
  pub outputs_append : (i : ℕ) (s : S) (xs ys : List A)
      → outputs next out i s (xs ++ ys) ≡ outputs next out i s xs ++ outputs next out (i + length xs) (foldl next s xs) ys
  unfolding outputs
  outputs_append i s [] ys = let e : i + 0 ≡ i = omega arith in rw e
  outputs_append i s (x ∷ xs) ys =
      let e : i + suc (length xs) ≡ (i + 1) + length xs = omega arith in
      let t = next s x in
      rw (e, outputs_append (i + 1) t xs ys)
      (sym (append_assoc (out i s x) (outputs next out (i + 1) t xs) (outputs next out ((i + 1) + length xs) (foldl next t xs) ys)))

  -- the first i elements and one more
  pub outputs_next : (first : ℕ) (s : S) (l : List A) (i : ℕ) (d : A) → i < length l
      → outputs next out first s (take (i + 1) l) ≡ outputs next out first s (take i l) ++ out (first + i) (foldl next s (take i l)) (get_or l i d)
  outputs_next first s l i d more =
      let e : length (take i l) ≡ i = length-take-le i l (omega arith) in
      rw (add-one, take-suc l i d more, outputs_append first s (take i l) (get_or l i d ∷ []), e, outputs_one (first + i) (foldl next s (take i l)) (get_or l i d))

  -- no longer than the longest of an element, times the elements; by a size of the state that an element raises by 1 at most, and that
  -- is under a limit all along
  module _ (size : S → ℕ) (grows : (s : S) (x : A) → size (next s x) ≤ suc (size s)) (limit most : ℕ) (each : (i : ℕ) (s : S) (x : A) → size s < limit → length (out i s x) ≤ most) where
    pub outputs_most : (i : ℕ) (s : S) (l : List A) → size s + length l ≤ limit → length (outputs next out i s l) ≤ length l * most
    unfolding outputs
    outputs_most i s [] h = omega arith
    outputs_most i s (x ∷ l) h =
        let rest = outputs_most (i + 1) (next s x) l (omega (arith, grows s x)) in
        omega (arith, length-append (out i s x) (outputs next out (i + 1) (next s x) l), each i s x (omega arith), suc-mul (length l) most)
