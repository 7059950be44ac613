-- The steps of a loop that reads digits, and how large the number is. Assumes nothing.
use Rattle.std.proofs.lemmas.Bool.Decides.{nat_tests}
use Rattle.std.specs.Char.{digit_value as code_value}
use Prim.Native.Nat.{ℕ, ◌+◌, ◌*◌, ◌≤◌, ◌<◌}
use mathlib.Core.Path.{◌≡◌, refl}
use mathlib.Core.Bool.{Bool, true, false, cond, ◌&&◌}
use mathlib.Core.List.{List, [], ◌∷◌}
use native.Mathlib.Nat.{mul-le-mul_left}
use native.Mathlib.Numerals.{add-one}
use native.Mathlib.Omega.{arith}
use borrow.Author.Tests.{leb-true, lt-leb, le-leb, lt-ltb, le-ltb}
use lib.Dec.{eqb, leb}
use lib.ListN.{length, take, drop, get_or, drop_of_length-le}
use lib.Pointwise.{pointwise}
use lib.Seq.{drop-cons}
use Rattle.lists.specs.Filter.{every}
use Rattle.lists.proofs.Clash.{clash}
use Rattle.std.proofs.Common.{Some, None}
use Rattle.script.specs.Numbers.{digit_value, value_from, is_digit, in_base_from, in_base, hex_mark, number_in}

-- a digit of a base up to 16 stands for what it stands for in the library, and what is none there is none here
module _ (base b : ℕ) (small : base ≤ 16) where
  pub digit_there : code_value b < base → code_value b ≡ digit_value b
  unfolding digit_value
  digit_there h = grind (arith, nat_tests)

  pub digit_absent : base ≤ code_value b → base ≤ digit_value b
  unfolding digit_value
  digit_absent h = grind (arith, nat_tests)

-- more digits make no number smaller
grows : (base : ℕ) → 1 ≤ base → (n : ℕ) (l : List ℕ) → n ≤ value_from base n l
unfolding value_from
grows base h n [] = omega arith
grows base h n (b ∷ l) = let k = mul-le-mul_left n h in let m = grows base h (n * base + digit_value b) l in omega arith

module _ (base most n : ℕ) (l : List ℕ) where
  pub base_above : 1 ≤ base → most < n → in_base_from base most n l ≡ None
  unfolding in_base_from
  base_above h k = go (every (is_digit base) l) (lt-leb (value_from base n l) most (let g = grows base h n l in omega arith))
    where
      go : (t : Bool) → leb (value_from base n l) most ≡ false → cond (t && leb (value_from base n l) most) (Some (value_from base n l)) None ≡ None
      go true e = rw e
      go false e = refl

  pub base_most : (v : ℕ) → in_base_from base most n l ≡ Some v → v ≤ most
  unfolding in_base_from
  base_most v e = go (every (is_digit base) l) (leb (value_from base n l) most) refl e
    where
      go : (t u : Bool) → leb (value_from base n l) most ≡ u → cond (t && u) (Some (value_from base n l)) None ≡ Some v → v ≤ most
      go true true f g = let z : value_from base n l ≡ v = cc in omega (arith, leb-true (value_from base n l) most f)
      go true false f g = clash cc
      go false u f g = clash cc

  module _ (i : ℕ) where
    pub base_end : length l ≤ i → n ≤ most → in_base_from base most n (drop i l) ≡ Some n
    unfolding in_base_from value_from
    base_end h k = rw (drop_of_length-le l {i = i} h, le-leb n most k)

    module _ (h : i < length l) where
      pub base_bad : base ≤ digit_value (get_or l i 0) → in_base_from base most n (drop i l) ≡ None
      unfolding in_base_from
      base_bad k = rw (drop-cons l i 0 h, le-ltb (digit_value (get_or l i 0)) base k)

      pub base_pass : digit_value (get_or l i 0) < base
          → in_base_from base most n (drop i l) ≡ in_base_from base most (n * base + digit_value (get_or l i 0)) (drop (i + 1) l)
      unfolding in_base_from value_from
      base_pass k = rw (add-one, drop-cons l i 0 h, lt-ltb (digit_value (get_or l i 0)) base k)

pub base_none : (base most : ℕ) (l : List ℕ) → length l ≡ 0 → in_base base most l ≡ None
unfolding in_base
base_none base most [] h = refl
base_none base most (b ∷ l) h = absurd (omega arith)

pub base_some : (base most : ℕ) (l : List ℕ) → (length l ≡ 0 → ⊥) → in_base base most l ≡ in_base_from base most 0 (drop 0 l)
unfolding in_base
base_some base most [] h = absurd (h refl)
base_some base most (b ∷ l) h = refl

in_base_most : (base most : ℕ) (l : List ℕ) (v : ℕ) → in_base base most l ≡ Some v → v ≤ most
unfolding in_base
in_base_most base most [] v e = clash cc
in_base_most base most (b ∷ l) v e = base_most base most 0 (b ∷ l) v e

-- what a word writes is not above the most that is taken
pub number_most : (most : ℕ) (l : List ℕ) (v : ℕ) → number_in most l ≡ Some v → v ≤ most
unfolding number_in
number_most most l v e = go (hex_mark l) e
  where
    go : (t : Bool) → cond t (in_base 16 most (drop 2 l)) (in_base 10 most l) ≡ Some v → v ≤ most
    go true f = in_base_most 16 most (drop 2 l) v f
    go false f = in_base_most 10 most l v f

-- a word begins with 0x where its first two bytes are those
pub hex_prefix : (l : List ℕ) → pointwise eqb (take 2 l) (48 ∷ 120 ∷ []) ≡ hex_mark l
unfolding hex_mark
hex_prefix [] = refl
hex_prefix (x ∷ []) = refl
hex_prefix (x ∷ y ∷ l) = go (eqb x 48) (eqb y 120)
  where
    go : (s t : Bool) → (s && (t && true)) ≡ (s && t)
    go true true = refl
    go true false = refl
    go false t = refl
