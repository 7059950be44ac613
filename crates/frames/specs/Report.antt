-- What a byte does to the monitor, and the line that tells it (ours).
use Rattle.std.specs.Prelude.{ℕ, List}
use Rattle.tpck.specs.Receive.{State, step, told_of}
use Rattle.frames.specs.Lines.{line}

-- (ours) the receiver after a byte
abbrev pub next : State → ℕ → State
next s b = (step s b).next

-- (ours) the line that tells what a byte did to the receiver, at this offset
abbrev pub line_of : ℕ → State → ℕ → List ℕ
line_of offset s b = line offset (told_of (step s b))
