-- The two lines of any gateway state (document 02, M-106): what a byte of one does to the other, what it queues, and whom a turn tells.
use Rattle.std.specs.Prelude.{◌≡◌, false, cond, List, [], ◌∷◌, ◌++◌, ℕ, ◌<◌, ltb, length, Option}
use Rattle.tpck.specs.Receive as receive
use Rattle.devices.specs.declared.field.Field.{Field}
use Rattle.updates.specs.declared.line.Line.{Line}
use Rattle.updates.specs.declared.update.Update.{Update}
use Rattle.updates.specs.Line.{same_line}
use Rattle.updates.specs.Update.{line_in}
use Rattle.updates.specs.Queue.{waits, from_line}
use Rattle.gateway.specs.declared.answers.ByteAnswer.TheVariants as byte
use Rattle.gateway.specs.declared.answers.TurnAnswer.TheVariants as turn
use Rattle.gateway.specs.Lines.{receiver_of}
use Rattle.gateway.specs.State.{State, applied}
use Rattle.gateway.specs.Reply.{room}
use Rattle.gateway.specs.Byte.{byte}
use Rattle.gateway.specs.Turn.{turn}

-- (ours) the state after a byte
abbrev pub after_byte : State → Line → ℕ → ℕ → State
after_byte g l b n = applied g (byte g l b n).effect

-- (01; 02, M-106) an update that a byte of the line has queued
pub record QueuedOn (g : State) (l : Line) (after : State) : Type 0 where
  pub update : Update
  pub at_tail : after.queue ≡ g.queue ++ (update ∷ [])
  -- (02) it records the line whose byte queued it
  pub line : line_in update ≡ l
  -- (02) 15 runs over both lines: none of its field waited
  pub new : waits g.queue update.field ≡ false
  -- (02) each line has eight: fewer of its own waited
  pub room : length (from_line l g.queue) < 8

-- (02, M-106) a byte of the line l, with a buffer of n bytes
pub record ByteApart (g : State) (l : Line) (b n : ℕ) : Type 0 where
  -- (02) "each with its own receiver": the other line's stays as it is
  pub other : (m : Line) → same_line m l ≡ false → receiver_of (after_byte g l b n).receivers m ≡ receiver_of g.receivers m
  -- (01) its own takes the byte, unless the buffer is short
  pub own : receiver_of (after_byte g l b n).receivers l ≡ cond (ltb n room) (receiver_of g.receivers l) (receive.step (receiver_of g.receivers l) b).next
  -- (02) what it queues
  pub queues : (k : ℕ) → (byte g l b n).answer ≡ byte.Queued k → QueuedOn g l (after_byte g l b n)

-- (02, M-106) a turn's answer is told to the line whose byte queued the head
abbrev pub ToldOn : State → Field → Option ℕ → ℕ → Type 0
ToldOn g f h n = (l : Line) (k : ℕ) → (turn g f h n).answer ≡ turn.Replied l k → (u : Update) × (q : List Update) × (g.queue ≡ u ∷ q) × (line_in u ≡ l)
