-- Laws of the checksum: of one byte, one byte more, and a header before data. Assumes nothing.
use Rattle.std.specs.Prelude.{fold}
use Rattle.std.proofs.Common.{zero-add, ◌≡◌, ℕ, ◌+◌, ◌%◌, ◌^◌, ◌<◌, List, [], ◌∷◌, ◌++◌, length, get_or, take, sym, ap, ◌∙◌, append_assoc, add-zero, add_assoc, mod-eq_of_lt, add-one, arith, take-suc}
use native.Mathlib.Nat.{mod-add-mod}
use Rattle.std.proofs.Math.Nat.{mod-lt}
use Rattle.tpck.specs.Frame.{sum, checksum}

pub sum_append : (xs ys : List ℕ) → sum (xs ++ ys) ≡ sum xs + sum ys
unfolding sum
sum_append [] ys = omega arith
sum_append (x ∷ xs) ys = rw (sum_append xs ys) (omega arith)

-- a byte is its own checksum
pub checksum_one : (b : ℕ) → b < 256 → b ≡ checksum (b ∷ [])
unfolding checksum sum
checksum_one b h = sym (ap (λ (n : ℕ). n % 256) (add-zero b) ∙ mod-eq_of_lt h)

-- one byte more
checksum_more : (xs : List ℕ) (b : ℕ) → checksum (xs ++ b ∷ []) ≡ (checksum xs + b) % 2 ^ 8
unfolding checksum sum
checksum_more xs b = rw (sum_append, mod-add-mod) (ap (λ (n : ℕ). (sum xs + n) % 256) (add-zero b))

-- one byte more of a list, with bytes before it or none
pub checksum_next : (front s : List ℕ) (i : ℕ) → i < length s
    → checksum (front ++ take (i + 1) s) ≡ (checksum (front ++ take i s) + get_or s i 0) % 2 ^ 8
checksum_next front s i h =
    rw (add-one, take-suc s i 0 h, ← append_assoc) (checksum_more (front ++ take i s) (get_or s i 0))

-- the first two bytes, added up before
pub checksum_header : (a b : ℕ) (s : List ℕ) → checksum ((a + b) % 2 ^ 8 ∷ s) ≡ checksum (a ∷ b ∷ s)
unfolding checksum sum
checksum_header a b s = mod-add-mod (a + b) 256 (sum s) ∙ ap (λ (n : ℕ). n % 256) (add_assoc a b (sum s))

-- the sum of bytes wraps as std's `fold` takes them
folds : (start : ℕ) (s : List ℕ) → start < 256 → fold (λ a b. (a + b) % 2 ^ 8) start s ≡ checksum (start ∷ s)
folds start [] h = checksum_one start h
folds start (b ∷ bs) h = folds ((start + b) % 2 ^ 8) bs (mod-lt (start + b) (omega arith)) ∙ checksum_header start b bs

pub checksum_folds : (s : List ℕ) → fold (λ a b. (a + b) % 2 ^ 8) 0 s ≡ checksum s
unfolding checksum sum
checksum_folds s = folds 0 s (omega arith) ∙ ap (λ (n : ℕ). n % 256) (zero-add (sum s))
