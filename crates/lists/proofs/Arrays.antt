-- What owning a value tells of the arrays in it: an array of n elements is a list of length n, and an array of bytes has
-- numbers below 256. The laws below on `map` are for a list that goes through one. Assumes nothing.
use Prim.Native.Nat.{ℕ, zero, suc, ◌<◌}
use mathlib.Core.Path.{◌≡◌, sym, ◌∙◌}
use mathlib.Core.List.{List, [], ◌∷◌, map}
use lib.ListN.{length, get_or, length-map, get_or-map}
use lib.Dec.{lit<}
use mir.Syntax.{w8}
use mir.Val.{Val}
use denote.Laws.{Is}
use denote.Array.{Array, each}
use denote.Plain.{UInt}
use denote.Shadow.{shadow}

-- a list whose elements go through a map
pub length_of_map : (X Y : Type 0) (f : X → Y) (l : List X) (n : ℕ) → length (map f l) ≡ n → length l ≡ n
length_of_map X Y f l n e = sym (length-map l f) ∙ e

each_byte : (xs : List ℕ) (us : List Val) → shadow (each ℕ (UInt w8).own_val xs us) → (i : ℕ) → get_or xs i 0 < 256
each_byte [] us p i = lit< tt
each_byte (x ∷ xs) [] p i = absurd p
each_byte (x ∷ xs) (u ∷ us) p zero = p.0.1
each_byte (x ∷ xs) (u ∷ us) p (suc i) = each_byte xs us p.1 i

-- an array of n bytes
module _ (n : ℕ) (xs : List ℕ) (vs : List Val) (p : Is (Array (UInt w8) n) xs vs) where
  pub array_length : length xs ≡ n
  array_length = p.1.0.1

  pub array_below : (i : ℕ) → get_or xs i 0 < 256
  array_below i = each_byte xs p.0 p.1.1 i

-- an array of n bytes that goes through a map
module _ (n : ℕ) (xs : List ℕ) (vs : List Val) (p : Is (Array (UInt w8) n) (map (λ v. v) xs) vs) where
  pub bytes_length : length xs ≡ n
  bytes_length = length_of_map ℕ ℕ (λ v. v) xs n p.1.0.1

  pub bytes_below : (i : ℕ) → get_or xs i 0 < 256
  bytes_below i = rw (get_or-map (λ (v : ℕ). v) xs i 0) at (each_byte (map (λ v. v) xs) p.0 p.1.1 i)
