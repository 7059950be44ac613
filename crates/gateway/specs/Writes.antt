-- What a byte and a turn write, by what they answer: no reply, or one that fits and whose length is told. Proved of every byte and
-- turn in proofs/Theorems.antt.
use Rattle.std.specs.Prelude.{List, [], ℕ, ◌≤◌, length}
use Rattle.updates.specs.declared.line.Line.{Line}
use Rattle.gateway.specs.declared.answers.ByteRefusal.{ByteRefusal}
use Rattle.gateway.specs.declared.answers.ByteAnswer.{ByteAnswer}
use Rattle.gateway.specs.declared.answers.ByteAnswer.TheVariants as byte
use Rattle.gateway.specs.declared.answers.TurnRefusal.{TurnRefusal}
use Rattle.gateway.specs.declared.answers.TurnAnswer.{TurnAnswer}
use Rattle.gateway.specs.declared.answers.TurnAnswer.TheVariants as turn
use Rattle.gateway.specs.Reply.{on_line, Fits}

-- (01; 02, M-110) a byte: no reply where it does nothing, is refused or queues an update, of which at most sixteen wait; else one
-- that fits, and its length
pub data ByteWrites : ByteAnswer → (reply : List ℕ) → Type 0 where
  nothing : ByteWrites byte.Nothing []
  refused : (e : ByteRefusal) → ByteWrites (byte.Refused e) []
  queued : (n : ℕ) → n ≤ 16 → ByteWrites (byte.Queued n) []
  replied : (content : List ℕ) → Fits content → ByteWrites (byte.Replied (length (on_line content))) (on_line content)

-- (01; 02, M-110) a turn: no reply where it is refused, which is no try, or the try failed; else one that fits, and its length
pub data TurnWrites : TurnAnswer → (reply : List ℕ) → Type 0 where
  untried : (e : TurnRefusal) → TurnWrites (turn.Refused e) []
  failed : TurnWrites turn.Failed []
  stored : (l : Line) → (content : List ℕ) → Fits content → TurnWrites (turn.Replied l (length (on_line content))) (on_line content)
