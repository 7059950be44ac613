-- What the writer writes, by what it answers: no frame, or one that fits a buffer of 32 bytes and whose length is told. Proved of every
-- call in proofs/Writing.antt.
use Rattle.std.specs.Prelude.{List, [], ℕ, length, Ok, Err}
use Rattle.gateway.specs.Reply.{on_line, Fits}
use Rattle.transfer.specs.declared.writer.HandRefusal.{HandRefusal}
use Rattle.transfer.specs.Hand.{HandAnswer}

-- (02, M-110, M-112) nothing where it is refused, or past the last frame; else a frame that fits, and its length
pub data HandWrites : HandAnswer → (reply : List ℕ) → Type 0 where
  unwritten : (e : HandRefusal) → HandWrites (Err e) []
  past : HandWrites (Ok 0) []
  written : (content : List ℕ) → Fits content → HandWrites (Ok (length (on_line content))) (on_line content)
