-- A number as text, in decimal (ours).
use Rattle.std.specs.Prelude.{ℕ, zero, suc, ◌+◌, ◌/◌, ◌%◌, List, [], ◌∷◌, ◌++◌}

-- (ours) the ASCII code of a digit
abbrev pub digit : ℕ → ℕ
digit d = 48 + d

-- (ours) the digits of n, the most significant first and no zero in front, so that 0 has none; at most k of them
unfoldable pub leading : ℕ → ℕ → List ℕ
leading zero n = []
leading (suc k) zero = []
leading (suc k) (suc n) = leading k (suc n / 10) ++ digit (suc n % 10) ∷ []

-- (ours) the text of n: its last digit, which 0 has too, after the digits of its tenth, of which there are at most n
unfoldable pub decimal : ℕ → List ℕ
unfolding leading
decimal n = leading n (n / 10) ++ digit (n % 10) ∷ []
