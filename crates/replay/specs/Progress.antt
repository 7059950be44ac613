-- What is kept from byte to byte of a script, and what is printed of it (ours: docs/REPLAY.md).
use Rattle.std.specs.Prelude.{ℕ, ◌≡◌, ◌+◌, ◌%◌, ◌^◌, Bool, true, false, cond, List, [], ◌∷◌, ◌++◌, length, take, ◌==◌, nat_le, Result, is_ok}
use mathlib.Core.List.{foldl}
use Rattle.text.specs.Place.{newline, Puts}
use Rattle.text.specs.declared.place.Text.{Text}
use Rattle.interpreter.specs.declared.result.BadLine.{BadLine}
use Rattle.text.specs.Report.{report}
use Rattle.gateway.specs.declared.gateway.Gateway.{Gateway}
use Rattle.gateway.specs.Results.{fresh}
use Rattle.text.specs.Slices.{place_of}
use Rattle.replay.specs.declared.progress.Progress.{Progress}
use Rattle.transcript.specs.Answers.{bad_line_text}
use Rattle.interpreter.specs.Limits.{longest, most_kept}
use Rattle.interpreter.specs.Done.{Done, bad, Ran, kept_after, as_was}
use Rattle.interpreter.specs.Line.{run_line}

-- (ours) the room for the text of a line: none is cut off (`step_whole`, `last_whole`, of every gateway by `line_short`, replay/proofs/PartSizes.antt)
abbrev pub line_room : ℕ
line_room = 655360

-- (ours) the most bytes of a block of the script
abbrev pub block_size : ℕ
block_size = 65536

-- (ours) the gateway, the number of lines that ended, and of the next line the bytes so far; `over` where it has more than are kept;
-- `more` are the bytes that `more` lines keep for a long call
pub record State : Type 0 where
  pub gateway : Gateway
  pub lines : ℕ
  pub kept : List ℕ
  pub over : Bool
  pub more : List ℕ

-- (ours) before the first byte: a fresh gateway, firmware 0 and protocol 0, and nothing kept
abbrev pub at_first : State
at_first = record { gateway = fresh 0 0; lines = 0; kept = []; over = false; more = [] }

-- (ours) the number of the line that ends: from 1 on, modulo 2^64
abbrev pub line_number : State → ℕ
line_number s = (s.lines + 1) % 2 ^ 64

-- (ours) what the line that ends results in; one that is too long is bad whatever it holds
abbrev pub ending : State → Ran
ending s = cond s.over (as_was s.more (bad s.gateway)) (run_line s.gateway most_kept s.more s.kept)

-- (ours) what is printed of the line with this number: its answers, or that it is bad
abbrev pub done_text : ℕ → Done → List ℕ
done_text number done = cond done.good done.text (bad_line_text number)

-- (ours) what is printed of the line that ends
abbrev pub line_text : State → List ℕ
line_text s = done_text (line_number s) (ending s).done

-- (ours) the line has ended
unfoldable pub line_ended : State → State
line_ended s = record { gateway = (ending s).done.gateway; lines = line_number s; kept = []; over = false; more = kept_after (ending s) }

-- (ours) a byte more of the line: kept, or the line is too long
unfoldable pub longer : State → ℕ → State
longer s b =
    cond (nat_le longest (length s.kept)) (record { gateway = s.gateway; lines = s.lines; kept = s.kept; over = true; more = s.more })
    (record { gateway = s.gateway; lines = s.lines; kept = s.kept ++ b ∷ []; over = s.over; more = s.more })

-- (ours) a newline ends the line; any other byte is a byte of it
unfoldable pub next : State → ℕ → State
next s b = cond (b == newline) (line_ended s) (longer s b)

-- (ours) what is printed at a byte: nothing but at a newline. It does not depend on the byte's offset.
unfoldable pub text_of : ℕ → State → ℕ → List ℕ
text_of offset s b = cond (b == newline) (line_text s) []

-- (ours) the state after bytes
abbrev pub after_bytes : State → List ℕ → State
after_bytes s bytes = foldl next s bytes

-- (ours) what is printed of bytes
abbrev pub printed_of : State → List ℕ → List ℕ
printed_of s bytes = report next text_of s 0 bytes

-- (ours) what is printed at the end of the input: what stands after the last newline is a line where it has a byte
unfoldable pub last_of : State → List ℕ → List ℕ
last_of s [] = []
last_of s (b ∷ l) = line_text s

-- (ours) all that is printed of a script
abbrev pub replayed : List ℕ → List ℕ
replayed script = printed_of at_first script ++ last_of (after_bytes at_first script) (after_bytes at_first script).kept

-- ---- what the code keeps, and what one step of it uses

-- (ours) the buffers lent for a run have room for the bytes of a line, and for those of a long call
pub record Rooms (s : Progress) : Type 0 where
  pub line : length s.line.out.now ≡ longest
  pub store : length s.kept.store.now ≡ most_kept

-- (ours) what the struct keeps: a place past the end of a buffer counts as the end
abbrev pub view : Progress → State
view s = record { gateway = s.gateway; lines = s.lines; kept = take s.line.at s.line.out.now; over = s.over; more = take s.kept.count s.kept.store.now }

-- (ours) a line was run: the gateway and the bytes kept for a long call are those after it, the rest is as it was
pub record Ends (s : State) (before after : Progress) (r : Result (Unit {0}) BadLine) (t u : Text) : Type 0 where
  pub state : view after ≡ record { gateway = (ending s).done.gateway; lines = s.lines; kept = s.kept; over = s.over; more = kept_after (ending s) }
  pub rooms : Rooms after
  pub good : is_ok r ≡ (ending s).done.good
  pub text : Puts (ending s).done.text t u
  pub silent : (ending s).done.good ≡ false → Puts [] t u

-- (ours) the place of the first newline; the end where there is none
abbrev pub line_end : List ℕ → ℕ
line_end bytes = place_of newline bytes 0

-- (ours) how many bytes a step uses: up to the first newline and with it, all where there is none
unfoldable pub used_of : List ℕ → ℕ
used_of bytes = cond (line_end bytes == length bytes) (length bytes) (line_end bytes + 1)
