-- Bytes as text, in lower-case hexadecimal (01, "The listing program").
use Rattle.std.specs.Prelude.{ℕ, ◌+◌, ◌/◌, ◌%◌, cond, List, [], ◌∷◌, ltb}
use Rattle.text.specs.Place.{space}
use Rattle.text.specs.Texts.{texts}

-- (01) the ASCII code of a digit: `0` to `9`, then `a` to `f`
abbrev pub nibble : ℕ → ℕ
nibble d = cond (ltb d 10) (48 + d) (87 + d)

-- (01) a byte: two digits, the high half first
abbrev pub hex : ℕ → List ℕ
hex b = nibble (b / 16) ∷ nibble (b % 16) ∷ []

-- (01) bytes: a space before each
abbrev pub hex_bytes : List ℕ → List ℕ
hex_bytes s = texts (λ b. space ∷ hex b) s
