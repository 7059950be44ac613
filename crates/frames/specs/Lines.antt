-- The lines that the monitor prints (ours).
use Rattle.std.specs.Prelude.{ℕ, List, [], ◌∷◌, ◌++◌, length}
use Rattle.text.specs.Place.{space, newline}
use Rattle.text.specs.Decimal.{decimal}
use Rattle.text.specs.Hex.{hex_bytes}
use Rattle.text.specs.Event.{event_text, drop_line}
use Rattle.tpck.specs.Event.{Told, nothing, drop_with, frame_of}

-- (ours) the word "frame"
abbrev pub frame_word : List ℕ
frame_word = 102 ∷ 114 ∷ 97 ∷ 109 ∷ 101 ∷ []

-- (ours) OFFSET frame TYPE LENGTH DATA
unfoldable pub frame_line : ℕ → ℕ → List ℕ → List ℕ
frame_line offset ptype bytes = event_text offset frame_word ptype ++ space ∷ decimal (length bytes) ++ hex_bytes bytes ++ newline ∷ []

-- (ours) the line of what a byte did, in document 01's numbers and values; that of a drop is the listing's (02, M-102)
abbrev pub line : ℕ → Told → List ℕ
line offset nothing = []
line offset (drop_with number taken) = drop_line offset number taken
line offset (frame_of ptype bytes) = frame_line offset ptype bytes

-- (ours) room for the line of one byte
abbrev pub line_room : ℕ
line_room = 1024

-- (ours) the most bytes of a block of the input
abbrev pub block_size : ℕ
block_size = 256
