-- Numbers of two and four bytes are read back, and bytes are those of the number read. Assumes nothing.
use mathlib.Core.Path.{◌≡◌, ap, ◌∙◌}
use mathlib.Core.List.{[], ◌∷◌}
use Prim.Native.Nat.{ℕ, suc, ◌+◌, ◌*◌, ◌/◌, ◌%◌, ◌<◌}
use native.Mathlib.Omega.{arith}
use native.Mathlib.Nat.{mod-eq_of_lt, mod-add-div, div-lt_iff_lt-mul, div-eq_of_lt, add-mul-mod_self_left, add-mul-div_left}
use Rattle.trpc.specs.Bytes.{bytes_of}

below : (n k : ℕ) → n < k * 256 → n / 256 < k
below n k h = (div-lt_iff_lt-mul {k = 256} {x = n} {y = k} (omega arith)).1 h

pub word_back : (n : ℕ) → n < 65536 → n % 256 + 256 * (n / 256 % 256) ≡ n
word_back n h = rw (mod-eq_of_lt (below n 256 (omega arith))) (mod-add-div n 256)

pub long_back : (n : ℕ) → n < 4294967296 → n % 256 + 256 * (n / 256 % 256) + 65536 * (n / 256 / 256 % 256 + 256 * (n / 256 / 256 / 256 % 256)) ≡ n
long_back n h =
    let q = n / 256 in
    let a : q < 16777216 = below n 16777216 (omega arith) in
    let b : q / 256 < 65536 = below q 65536 (omega arith) in
    omega (arith, word_back (q / 256) b, mod-add-div n 256, mod-add-div q 256)

-- the low byte of a number, and the others
bytes_cons : (k a m : ℕ) → a < 256 → bytes_of (suc k) (a + 256 * m) ≡ a ∷ bytes_of k m
bytes_cons k a m h =
    let low : (a + 256 * m) % 256 ≡ a = add-mul-mod_self_left a 256 m ∙ mod-eq_of_lt h in
    let high : (a + 256 * m) / 256 ≡ m = omega (arith, add-mul-div_left a m {y = 256} (omega arith), div-eq_of_lt {n = a} {m = 256} h) in
    λ i. low i ∷ bytes_of k (high i)

bytes_one : (a : ℕ) → a < 256 → bytes_of 1 a ≡ a ∷ []
bytes_one a h = ap (λ (n : ℕ). n ∷ []) (mod-eq_of_lt h)

pub word_bytes : (a b : ℕ) → a < 256 → b < 256 → bytes_of 2 (a + 256 * b) ≡ a ∷ b ∷ []
word_bytes a b h k = let e = bytes_one b k in bytes_cons 1 a b h ∙ (λ i. a ∷ e i)

pub long_bytes : (a b c d : ℕ) → a < 256 → b < 256 → c < 256 → d < 256 → bytes_of 4 (a + 256 * b + 65536 * (c + 256 * d)) ≡ a ∷ b ∷ c ∷ d ∷ []
long_bytes a b c d h k l m =
    let w = c + 256 * d in
    let split : a + 256 * b + 65536 * w ≡ a + 256 * (b + 256 * w) = omega arith in
    let e = word_bytes c d l m in
    let f = bytes_cons 2 b w k in
    ap (bytes_of 4) split ∙ bytes_cons 3 a (b + 256 * w) h ∙ (λ i. a ∷ f i) ∙ (λ i. a ∷ b ∷ e i)
