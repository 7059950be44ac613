-- The words that only the answers have (ours: docs/REPLAY.md).
use Rattle.std.specs.Prelude.{ℕ, List, [], ◌∷◌}

-- (ours) "line"
abbrev pub line_word : List ℕ
line_word = 108 ∷ 105 ∷ 110 ∷ 101 ∷ []

-- (ours) "bad"
abbrev pub bad_word : List ℕ
bad_word = 98 ∷ 97 ∷ 100 ∷ []

-- (ours) "added"
abbrev pub added_word : List ℕ
added_word = 97 ∷ 100 ∷ 100 ∷ 101 ∷ 100 ∷ []

-- (ours) "failed"
abbrev pub failed_word : List ℕ
failed_word = 102 ∷ 97 ∷ 105 ∷ 108 ∷ 101 ∷ 100 ∷ []

-- (ours) "accepted"
abbrev pub accepted_word : List ℕ
accepted_word = 97 ∷ 99 ∷ 99 ∷ 101 ∷ 112 ∷ 116 ∷ 101 ∷ 100 ∷ []

-- (ours) "receiver"
abbrev pub receiver_word : List ℕ
receiver_word = 114 ∷ 101 ∷ 99 ∷ 101 ∷ 105 ∷ 118 ∷ 101 ∷ 114 ∷ []

-- (ours) "inside"
abbrev pub inside_word : List ℕ
inside_word = 105 ∷ 110 ∷ 115 ∷ 105 ∷ 100 ∷ 101 ∷ []

-- (ours) "hunting"
abbrev pub hunting_word : List ℕ
hunting_word = 104 ∷ 117 ∷ 110 ∷ 116 ∷ 105 ∷ 110 ∷ 103 ∷ []

-- (ours) "escape"
abbrev pub escape_word : List ℕ
escape_word = 101 ∷ 115 ∷ 99 ∷ 97 ∷ 112 ∷ 101 ∷ []

-- (ours) "plain"
abbrev pub plain_word : List ℕ
plain_word = 112 ∷ 108 ∷ 97 ∷ 105 ∷ 110 ∷ []

-- (ours) "settings"
abbrev pub settings_word : List ℕ
settings_word = 115 ∷ 101 ∷ 116 ∷ 116 ∷ 105 ∷ 110 ∷ 103 ∷ 115 ∷ []

-- (ours) "waiting"
abbrev pub waiting_word : List ℕ
waiting_word = 119 ∷ 97 ∷ 105 ∷ 116 ∷ 105 ∷ 110 ∷ 103 ∷ []

-- (ours) "drops"
abbrev pub drops_word : List ℕ
drops_word = 100 ∷ 114 ∷ 111 ∷ 112 ∷ 115 ∷ []

-- (ours) "body"
abbrev pub body_word : List ℕ
body_word = 98 ∷ 111 ∷ 100 ∷ 121 ∷ []
