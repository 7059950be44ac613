-- Writing (document 01, "Writing"): the answer, and what the lent buffer holds afterwards.
use Rattle.std.specs.Prelude.{◌≡◌, ℕ, ◌+◌, cond, List, [], length, nat_lt, Result, Ok, Err}
use Rattle.std.proofs.lemmas.List.Edits.{sets}
use Rattle.lists.specs.Overlay.{overlay}
use Rattle.tpck.specs.declared.writer.Refusal.{Refusal}
use Rattle.tpck.specs.declared.writer.Refusal.TheVariants.{NoRoom, TooMuchData}
use Rattle.tpck.specs.Frame.{most_data, frame}

-- (01) the number of each refusal
abbrev pub refusal_number : Refusal → ℕ
refusal_number NoRoom = 1
refusal_number TooMuchData = 2

-- (01) what `write` answers, given the bytes of its buffer: over 255 data bytes, first; then a buffer shorter than the frame
abbrev pub write : ℕ → List ℕ → List ℕ → Result ℕ Refusal
write ptype bytes out =
    cond (nat_lt most_data (length bytes)) (Err TooMuchData)
    (cond (nat_lt (length out) (length (frame ptype bytes))) (Err NoRoom)
    (Ok (length (frame ptype bytes))))

-- (01) the bytes that an answer puts on the line: the frame, and none where it refuses
abbrev pub line_of : Result ℕ Refusal → List ℕ → List ℕ
line_of (Ok n) line = line
line_of (Err e) line = []

-- (01) what the buffer then holds: the frame, and after it what stood there; after a refusal what it held
abbrev pub buffer : ℕ → List ℕ → List ℕ → List ℕ
buffer ptype bytes out = overlay (line_of (write ptype bytes out) (frame ptype bytes)) out

-- (ours) bytes written into a buffer at a place: what it then holds, and the place after them
pub record Wrote (bytes before : List ℕ) (at : ℕ) (after : List ℕ) (to : ℕ) : Type 0 where
  pub place : to ≡ at + length bytes
  pub holds : after ≡ sets before at bytes
