-- How long a text is: numbers, bytes, the front of a line. Assumes nothing.
use Prim.Native.Nat.{ℕ, zero, suc, ◌+◌, ◌*◌, ◌/◌, ◌%◌, ◌^◌, ◌≤◌, ◌<◌}
use mathlib.Core.Path.{◌≡◌, refl}
use mathlib.Core.Bool.{Bool, true, false}
use mathlib.Core.List.{List, [], ◌∷◌, ◌++◌}
use native.Mathlib.Nat.{pow-suc}
use native.Mathlib.Omega.{arith}
use borrow.Author.Tests.{ltb-true, ltb-false}
use lib.Dec.{ltb}
use lib.ListN.{length, length-append}
use Rattle.text.specs.Place.{space, newline}
use Rattle.text.specs.Decimal.{digit, decimal}
use Rattle.text.specs.Hex.{hex_bytes}
use Rattle.text.specs.Texts.{texts}
use Rattle.text.specs.Event.{event_text, event_line, drop_word, drop_line}
use Rattle.text.proofs.Numbers.{decimal_digit, decimal_more}

-- a number below 10 ^ k has at most k digits
pub decimal_length : (k n : ℕ) → n < 10 ^ suc k → length (decimal n) ≤ suc k
decimal_length zero n h = rw (decimal_digit n (omega arith)) (omega arith)
decimal_length (suc k) n h = go (ltb n 10) refl (decimal_length k (n / 10) (omega (arith, pow-suc 10 (suc k))))
  where
    go : (t : Bool) → ltb n 10 ≡ t → length (decimal (n / 10)) ≤ suc k → length (decimal n) ≤ suc (suc k)
    go true e i = rw (decimal_digit n (ltb-true n 10 e)) (omega arith)
    go false e i =
        rw (decimal_more n (ltb-false n 10 e)) (omega (arith, length-append (decimal (n / 10)) (digit (n % 10) ∷ [])))

-- a number of 64 bits has at most 20 digits
pub decimal_most : (n : ℕ) → n < 2 ^ 64 → length (decimal n) ≤ 20
decimal_most n h = decimal_length 19 n (omega arith)

-- one of 8 bits has at most 3
pub decimal_byte : (n : ℕ) → n < 256 → length (decimal n) ≤ 3
decimal_byte n h = decimal_length 2 n (omega arith)

pub hex_length : (s : List ℕ) → length (hex_bytes s) ≡ 3 * length s
unfolding texts
hex_length [] = refl
hex_length (x ∷ xs) = omega (arith, hex_length xs)

-- two numbers of 64 bits, a word and two spaces
pub event_most : (offset : ℕ) (word : List ℕ) (number : ℕ) → offset < 2 ^ 64 → number < 2 ^ 64 → length (event_text offset word number) ≤ length word + 42
unfolding event_text
event_most offset word number h i =
    let front = decimal offset ++ space ∷ word in
    omega (arith, length-append front (space ∷ decimal number), length-append (decimal offset) (space ∷ word), decimal_most offset h, decimal_most number i)

-- the same and the end of the line
pub event_line_most : (offset : ℕ) (word : List ℕ) (number : ℕ) → offset < 2 ^ 64 → number < 2 ^ 64 → length (event_line offset word number) ≤ length word + 43
unfolding event_line
event_line_most offset word number h i =
    omega (arith, length-append (event_text offset word number) (newline ∷ []), event_most offset word number h i)

-- the line of a drop: an event, a space, one number more and the end of the line
pub drop_line_most : (offset number taken : ℕ) → offset < 2 ^ 64 → number < 2 ^ 64 → taken < 2 ^ 64 → length (drop_line offset number taken) ≤ 68
unfolding drop_line
drop_line_most offset number taken h i j =
    let front = event_text offset drop_word number in
    let last = space ∷ decimal taken in
    omega (
      arith,
      length-append (front ++ last) (newline ∷ []),
      length-append front last,
      event_most offset drop_word number h i,
      decimal_most taken j,
    )
