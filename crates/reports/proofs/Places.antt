-- Laws of masks: the number of places, and the mask of a test. Assumes nothing.
use Prim.Native.Nat.{ℕ, zero, suc, ◌+◌, ◌-◌, ◌*◌, ◌^◌, ◌≤◌, ◌<◌}
use mir.Val.{bool_byte}
use mathlib.Core.Path.{◌≡◌, refl, ap}
use mathlib.Core.Bool.{Bool, true, false}
use mathlib.Core.List.{List, [], ◌∷◌}
use native.Mathlib.Omega.{arith}
use lib.Arith.{lt-one, digits_div, digits_mod}
use lib.Count.{ones}
use lib.ListN.{length, drop, get_or, length-drop, drop_of_length-le}
use lib.Pow.{pow_mono}
use lib.Seq.{drop-cons}
use Rattle.reports.specs.Mask.{if_set, digit, mask_where}
use Rattle.reports.proofs.Digits.{Digits, double}

-- ---- the number of places: the count of ones
pub length_if_set : {A : Type 0} (d : ℕ) (x : A) (l : List A) → d < 2 → length (if_set d x l) ≡ d + length l
length_if_set zero x l h = omega arith
length_if_set (suc zero) x l h = omega arith
length_if_set (suc (suc d)) x l h = absurd (omega arith)

pub ones_zero : (m : ℕ) → m < 2 ^ 0 → ones m ≡ 0
unfolding ones
ones_zero m h = ap ones (lt-one h)

-- ---- the mask of a test
pub where_digits : {A : Type 0} (p : A → Bool) (x : A) (l : List A) → Digits (mask_where p (x ∷ l)) (digit (p x)) (mask_where p l)
unfolding mask_where
where_digits p x l = record { lowest = digits_mod (mask_where p l) (small (p x)); higher = digits_div (mask_where p l) (small (p x)) }
  where
    small : (b : Bool) → digit b < 2
    small true = omega arith
    small false = omega arith

-- one element more, the last first: what the loop over the rows does
pub where_step : {A : Type 0} (p : A → Bool) (l : List A) (d : A) (i : ℕ) → 0 < i → i ≤ length l
    → mask_where p (drop i l) * 2 + digit (p (get_or l (i - 1) d)) ≡ mask_where p (drop (i - 1) l)
unfolding mask_where
where_step p l d zero g h = absurd (omega arith)
where_step p l d (suc j) g h = rw (less, drop-cons l j d (omega arith))
  where
    less : suc j - 1 ≡ j
    less = omega arith

pub where_below : {A : Type 0} (p : A → Bool) (l : List A) → mask_where p l < 2 ^ length l
unfolding mask_where
where_below p [] = omega arith
where_below p (x ∷ l) = go (p x) (where_below p l) (double (length l))
  where
    go : (b : Bool) → mask_where p l < 2 ^ length l → 2 ^ suc (length l) ≡ 2 ^ length l * 2 → mask_where p l * 2 + digit b < 2 ^ suc (length l)
    go true q e = omega arith
    go false q e = omega arith

pub where_all : {A : Type 0} (p : A → Bool) (l : List A) (i : ℕ) → length l ≤ i → 0 ≡ mask_where p (drop i l)
unfolding mask_where
where_all p l i h = rw (drop_of_length-le l h)

pub where_fits : {A : Type 0} (p : A → Bool) (l : List A) (i : ℕ) → length l ≤ 32 → mask_where p (drop i l) < 4294967296
where_fits p l i h =
    let b = where_below p (drop i l) in
    let n : length (drop i l) ≤ 32 = omega (arith, length-drop i l) in
    let m : 2 ^ length (drop i l) ≤ 2 ^ 32 = pow_mono n in
    omega arith

-- the digit of a test, as the code has it
pub digit_is : (b : Bool) → bool_byte b ≡ digit b
digit_is true = refl
digit_is false = refl

-- the step of the loop over the rows, and that it fits
pub where_next : {A : Type 0} (p : A → Bool) (l : List A) (d : A) (i m b : ℕ) → 0 < i → i ≤ length l → length l ≤ 32
    → m ≡ mask_where p (drop i l) → b ≡ digit (p (get_or l (i - 1) d))
    → (m * 2 + b ≡ mask_where p (drop (i - 1) l)) × (m * 2 + b < 4294967296)
where_next p l d i m b h g few e f =
    let next : m * 2 + b ≡ mask_where p (drop (i - 1) l) = rw (e, f) (where_step p l d i h g) in
    (next, omega (arith, where_fits p l (i - 1) few))
