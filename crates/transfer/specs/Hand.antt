-- The writer (document 02, M-112): a call on the gateway, for one place of the list of frames.
use Rattle.std.specs.Prelude as std
use Rattle.std.specs.Prelude.{ℕ, List, [], ◌∷◌, Bool, true, false, length, get_or, ltb, Ok, Err}
use Rattle.updates.specs.declared.update.Update.{Update}
use Rattle.gateway.specs.State.{State, Result, nothing, result, replying}
use Rattle.gateway.specs.Reply.{room}
use Rattle.transfer.specs.declared.writer.HandRefusal.{HandRefusal}
use Rattle.transfer.specs.declared.writer.HandRefusal.TheVariants.{Short, UpdatesWait}
use Rattle.transfer.specs.Contents.{lines}

-- (02) the numbers of the refusals
abbrev pub hand_number : HandRefusal → ℕ
hand_number Short = 1
hand_number UpdatesWait = 23

-- (02) what a call of the writer answers: the frame's length, or why nothing is written
abbrev pub HandAnswer : Type 0
HandAnswer = std.Result ℕ HandRefusal

-- (02) refused: nothing is written; the writer never changes the gateway
abbrev pub refuse : HandRefusal → Result HandAnswer
refuse e = result nothing (Err e)

-- (02) the frame at a place, from 0; "past the last, nothing is written"
unfoldable pub line_at : State → ℕ → List ℕ
line_at g place = get_or (lines g.properties g.table) place []

-- (02) the frame is written, and its length told
abbrev pub hand_line : List ℕ → Result HandAnswer
hand_line line = replying nothing (Ok (length line)) line

-- (02) 23 where an update waits
unfoldable pub hand_queue : State → ℕ → List Update → Result HandAnswer
hand_queue g place [] = hand_line (line_at g place)
hand_queue g place (u ∷ q) = refuse UpdatesWait

-- (02) 1 first; `short` is whether the buffer has under 32 bytes
unfoldable pub hand_in : State → ℕ → (short : Bool) → Result HandAnswer
hand_in g place true = refuse Short
hand_in g place false = hand_queue g place g.queue

-- (02) frame number `place`, into a buffer of n bytes: "1 as for a byte, then 23 updates wait"
unfoldable pub hand : State → (place n : ℕ) → Result HandAnswer
hand g place n = hand_in g place (ltb n room)
