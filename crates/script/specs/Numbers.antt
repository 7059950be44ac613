-- The numbers that words write (ours: docs/REPLAY.md).
use Rattle.std.specs.Prelude.{ℕ, ◌+◌, ◌-◌, ◌*◌, Bool, cond, ◌&&◌, List, [], ◌∷◌, eqb, leb, ltb, length, drop, get_or, Option, Some, None}
use Rattle.lists.specs.Filter.{every}

-- (ours) low ≤ b ≤ high
abbrev pub between : ℕ → ℕ → ℕ → Bool
between low b high = leb low b && leb b high

-- (ours) what a digit stands for: `0` to `9`, then `a` to `f` in either case; 16 where it is no digit
unfoldable pub digit_value : ℕ → ℕ
digit_value b = cond (between 48 b 57) (b - 48) (cond (between 97 b 102) (b - 87) (cond (between 65 b 70) (b - 55) 16))

-- (ours) the number that digits write after one already read, the most significant first
unfoldable pub value_from : ℕ → ℕ → List ℕ → ℕ
value_from base n [] = n
value_from base n (b ∷ l) = value_from base (n * base + digit_value b) l

-- (ours) a digit of the base
abbrev pub is_digit : ℕ → ℕ → Bool
is_digit base b = ltb (digit_value b) base

-- (ours) digits after a number already read: no number where there is any other byte, or where it is above `most`
unfoldable pub in_base_from : ℕ → ℕ → ℕ → List ℕ → Option ℕ
in_base_from base most n l = cond (every (is_digit base) l && leb (value_from base n l) most) (Some (value_from base n l)) None

-- (ours) at least one digit and nothing else
unfoldable pub in_base : ℕ → ℕ → List ℕ → Option ℕ
in_base base most [] = None
in_base base most (b ∷ l) = in_base_from base most 0 (b ∷ l)

-- (ours) begins with `0x`
unfoldable pub hex_mark : List ℕ → Bool
hex_mark l = eqb (get_or l 0 0) 48 && eqb (get_or l 1 0) 120

-- (ours) a number: hexadecimal after `0x`, else decimal
unfoldable pub number_in : ℕ → List ℕ → Option ℕ
number_in most l = cond (hex_mark l) (in_base 16 most (drop 2 l)) (in_base 10 most l)

-- (ours) a BYTE: two hexadecimal digits
unfoldable pub byte_in : List ℕ → Option ℕ
byte_in l = cond (eqb (length l) 2) (in_base 16 255 l) None
