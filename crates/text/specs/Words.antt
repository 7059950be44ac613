-- The words that a script of calls and its answers share (ours: docs/REPLAY.md).
use Rattle.std.specs.Prelude.{ℕ, List, [], ◌∷◌}

-- (ours) "gateway"
abbrev pub gateway_word : List ℕ
gateway_word = 103 ∷ 97 ∷ 116 ∷ 101 ∷ 119 ∷ 97 ∷ 121 ∷ []

-- (ours) "row"
abbrev pub row_word : List ℕ
row_word = 114 ∷ 111 ∷ 119 ∷ []

-- (ours) "byte"
abbrev pub byte_word : List ℕ
byte_word = 98 ∷ 121 ∷ 116 ∷ 101 ∷ []

-- (ours) "tick"
abbrev pub tick_word : List ℕ
tick_word = 116 ∷ 105 ∷ 99 ∷ 107 ∷ []

-- (ours) "turn"
abbrev pub turn_word : List ℕ
turn_word = 116 ∷ 117 ∷ 114 ∷ 110 ∷ []

-- (ours) "head"
abbrev pub head_word : List ℕ
head_word = 104 ∷ 101 ∷ 97 ∷ 100 ∷ []

-- (ours) "error"
abbrev pub error_word : List ℕ
error_word = 101 ∷ 114 ∷ 114 ∷ 111 ∷ 114 ∷ []

-- (ours) "write"
abbrev pub write_word : List ℕ
write_word = 119 ∷ 114 ∷ 105 ∷ 116 ∷ 101 ∷ []

-- (ours) "date"
abbrev pub date_word : List ℕ
date_word = 100 ∷ 97 ∷ 116 ∷ 101 ∷ []

-- (ours) "plant"
abbrev pub plant_word : List ℕ
plant_word = 112 ∷ 108 ∷ 97 ∷ 110 ∷ 116 ∷ []

-- (ours) "hand"
abbrev pub hand_word : List ℕ
hand_word = 104 ∷ 97 ∷ 110 ∷ 100 ∷ []

-- (ours) "read"
abbrev pub read_word : List ℕ
read_word = 114 ∷ 101 ∷ 97 ∷ 100 ∷ []

-- (ours) "block"
abbrev pub block_word : List ℕ
block_word = 98 ∷ 108 ∷ 111 ∷ 99 ∷ 107 ∷ []

-- (ours) "mode"
abbrev pub mode_word : List ℕ
mode_word = 109 ∷ 111 ∷ 100 ∷ 101 ∷ []

-- (ours) "cool"
abbrev pub cool_word : List ℕ
cool_word = 99 ∷ 111 ∷ 111 ∷ 108 ∷ []

-- (ours) "slab"
abbrev pub slab_word : List ℕ
slab_word = 115 ∷ 108 ∷ 97 ∷ 98 ∷ []

-- (ours) "fan"
abbrev pub fan_word : List ℕ
fan_word = 102 ∷ 97 ∷ 110 ∷ []

-- (02, M-106) "controller"
abbrev pub controller_word : List ℕ
controller_word = 99 ∷ 111 ∷ 110 ∷ 116 ∷ 114 ∷ 111 ∷ 108 ∷ 108 ∷ 101 ∷ 114 ∷ []

-- (02, M-106) "panel"
abbrev pub panel_word : List ℕ
panel_word = 112 ∷ 97 ∷ 110 ∷ 101 ∷ 108 ∷ []
