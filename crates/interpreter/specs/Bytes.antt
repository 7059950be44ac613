-- The bytes of a `byte` line, all of one serial line, each with a reply buffer of ROOM bytes (ours: docs/REPLAY.md).
use Rattle.std.specs.Prelude.{ℕ, replicate}
use mathlib.Core.List.{List, foldl}
use Rattle.lists.specs.Overlay.{overlay}
use Rattle.text.specs.Report.{report}
use Rattle.updates.specs.declared.line.Line.{Line}
use Rattle.gateway.specs.declared.gateway.Gateway.{Gateway}
use Rattle.gateway.specs.declared.answers.ByteAnswer.{ByteAnswer}
use Rattle.gateway.specs.State.{Result}
use Rattle.gateway.specs.View.{view}
use Rattle.gateway.specs.Byte.{byte}
use Rattle.gateway.specs.Results.{fed}
use Rattle.transcript.specs.Answers.{byte_answer_text}
use Rattle.interpreter.specs.Done.{Done, served}

-- (ours) a lent buffer of this size, all 0
abbrev pub lent : ℕ → List ℕ
lent room = replicate room 0

-- (ours) what a byte results in
abbrev pub byte_result : Line → ℕ → Gateway → ℕ → Result ByteAnswer
byte_result on room g b = byte (view g) on b room

-- (ours) the gateway after a byte
abbrev pub byte_next : Line → ℕ → Gateway → ℕ → Gateway
byte_next on room g b = (fed g (byte_result on room g b)).gateway

-- (ours) what is printed of the byte at a place of the line; a reply is laid over the buffer that was lent
abbrev pub byte_said : Line → ℕ → ℕ → Gateway → ℕ → List ℕ
byte_said on room place g b = let x = byte_result on room g b in byte_answer_text place x.answer (overlay x.reply (lent room))

-- (ours) each byte, one after the other, its places counted from 0
unfoldable pub bytes_done : Line → ℕ → Gateway → List ℕ → Done
bytes_done on room g bytes = served (foldl (byte_next on room) g bytes) (report (byte_next on room) (byte_said on room) g 0 bytes)
