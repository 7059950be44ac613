-- (ours) What a program prints of bytes that it gets one by one.
--
-- The program holds a state. A byte takes it to the next one, and has a text: none where the byte does nothing that is to be told.
use Rattle.std.specs.Prelude.{ℕ, ◌+◌, ◌%◌, ◌^◌, length}
use mathlib.Core.List.{List, foldl}
use Rattle.lists.specs.Outputs.{outputs}

-- (ours) what the program keeps from block to block: the state, and the offset of the next byte
pub record Carried (S : Type 0) : Type 0 where
  pub state : S
  pub offset : ℕ

module _ {S : Type 0} (next : S → ℕ → S) where
  -- (ours) what is kept after a block; offsets are counted modulo 2^64
  abbrev pub carried_after : Carried S → List ℕ → Carried S
  carried_after k block = record { state = foldl next k.state block; offset = (k.offset + length block) % 2 ^ 64 }

-- (ours) the text of a byte, its offset taken modulo 2^64
abbrev pub wrapping : {S : Type 0} → (ℕ → S → ℕ → List ℕ) → ℕ → S → ℕ → List ℕ
wrapping text offset = text (offset % 2 ^ 64)

module _ {S : Type 0} (next : S → ℕ → S) (text : ℕ → S → ℕ → List ℕ) where
  -- (ours) the texts of bytes, the first of them at this offset
  abbrev pub report : S → ℕ → List ℕ → List ℕ
  report s offset bytes = outputs next (wrapping text) offset s bytes

  -- (ours) the lines of a block
  abbrev pub lines_of : Carried S → List ℕ → List ℕ
  lines_of k block = report k.state k.offset block
