-- Numbers, bytes and a line as text, computed. Assumes nothing.
use mathlib.Core.Path.{◌≡◌, refl}
use mathlib.Core.List.{[], ◌∷◌}
use Rattle.text.specs.Decimal.{leading, decimal}
use Rattle.text.specs.Texts.{texts}
use Rattle.text.specs.Hex.{hex_bytes}
use Rattle.text.specs.Event.{event_text, drop_line}

-- "0"
decimal_zero : decimal 0 ≡ 48 ∷ []
unfolding decimal leading
decimal_zero = refl

-- "100"
decimal_hundred : decimal 100 ≡ 49 ∷ 48 ∷ 48 ∷ []
unfolding decimal leading
decimal_hundred = refl

-- "18446744073709551615", the largest that 64 bits hold
decimal_largest : decimal 18446744073709551615
    ≡ 49 ∷ 56 ∷ 52 ∷ 52 ∷ 54 ∷ 55 ∷ 52 ∷ 52 ∷ 48 ∷ 55 ∷ 51 ∷ 55 ∷ 48 ∷ 57 ∷ 53 ∷ 53 ∷ 49 ∷ 54 ∷ 49 ∷ 53 ∷ []
unfolding decimal leading
decimal_largest = refl

-- " ca 09"
hex_of_two : hex_bytes (0xCA ∷ 0x09 ∷ []) ≡ 32 ∷ 99 ∷ 97 ∷ 32 ∷ 48 ∷ 57 ∷ []
unfolding texts
hex_of_two = refl

-- (02, M-102) "17 drop 3 1"
drop_at_17 : drop_line 17 3 1 ≡ 49 ∷ 55 ∷ 32 ∷ 100 ∷ 114 ∷ 111 ∷ 112 ∷ 32 ∷ 51 ∷ 32 ∷ 49 ∷ 10 ∷ []
unfolding drop_line event_text decimal leading
drop_at_17 = refl
