-- Numbers in bytes, low byte first (01; the examples of 000 show it), and a list in an array.
use Rattle.std.specs.Prelude.{ℕ, zero, suc, ◌+◌, ◌*◌, ◌/◌, ◌%◌, List, [], ◌∷◌, get_or}

-- (01) the byte at a place of the content; past the content 0 (ours, D-43), which no record that passes the checks reads
abbrev pub byte_at : List ℕ → ℕ → ℕ
byte_at c i = get_or c i 0

-- (01) the number in two bytes of the content, from a place on
abbrev pub word_at : List ℕ → ℕ → ℕ
word_at c i = byte_at c i + 256 * byte_at c (i + 1)

-- (01) the number in four
abbrev pub long_at : List ℕ → ℕ → ℕ
long_at c i = word_at c i + 65536 * word_at c (i + 2)

-- (01) a number as k bytes
abbrev pub bytes_of : ℕ → ℕ → List ℕ
bytes_of zero n = []
bytes_of (suc k) n = n % 256 ∷ bytes_of k (n / 256)

-- (ours) a list in an array of n places, with zeros after it
abbrev pub pad : ℕ → List ℕ → List ℕ
pad zero l = []
pad (suc n) [] = 0 ∷ pad n []
pad (suc n) (x ∷ l) = x ∷ pad n l
