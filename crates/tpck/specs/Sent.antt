-- What a line sent, read off its bytes alone: where an escape is pending in it, what it has held since the SOF of a packet, and that
-- it ends in a frame.
use Rattle.std.specs.Prelude.{◌≡◌, ℕ, Bool, true, false, List, [], ◌∷◌, ◌++◌, ◌==◌}
use mathlib.Core.List.{foldl}
use Rattle.tpck.specs.Frame.{sof, esc, Stuffing, Valid}

-- (01) 0x2F with none pending becomes pending, and the byte after a pending escape, of any value, clears it
abbrev pub pending_next : Bool → ℕ → Bool
pending_next true b = false
pending_next false b = b == esc

-- (01) whether an escape is pending after the line; none is pending at first
unfoldable pub pending_after : List ℕ → Bool
pending_after line = foldl pending_next false line

-- (01) the escape that is pending, as it stands on the line
abbrev pub pending_bytes : Bool → List ℕ
pending_bytes true = esc ∷ []
pending_bytes false = []

-- (01) the line since the SOF of an open packet: the body with its escapes, and after it the escape that is pending, if one is. No
-- escape was pending where that SOF stood, so it is a start and no data: without `unescaped` a receiver that takes every 0xCA as a
-- start, escaped or not, would keep to this
pub record Since (line : List ℕ) (pending : Bool) (body : List ℕ) : Type 0 where
  pub before : List ℕ
  pub sent : List ℕ
  pub unescaped : pending_after before ≡ false
  pub stuffing : Stuffing body sent
  pub line_is : line ≡ before ++ (sof ∷ sent ++ pending_bytes pending)

-- (01) the line ends in a valid frame of this type and data, whose SOF is not escaped: 2F CA 00 06 06 35 does not
pub data EndsIn (ptype : ℕ) (bytes : List ℕ) : List ℕ → Type 0 where
  ends : (before : List ℕ) {line : List ℕ} → pending_after before ≡ false → Valid ptype bytes line → EndsIn ptype bytes (before ++ line)
