-- Bytes of a line, one byte call for each (document 02, M-100): the calls that a block stands for.
use Rattle.std.specs.Prelude.{ℕ, ◌-◌, Bool, true, false, List, [], ◌∷◌, ◌++◌, ltb, length}
use Rattle.updates.specs.declared.line.Line.{Line}
use Rattle.gateway.specs.declared.gateway.Gateway.{Gateway}
use Rattle.gateway.specs.declared.answers.ByteAnswer.{ByteAnswer}
use Rattle.gateway.specs.declared.answers.ByteAnswer.TheVariants.{Nothing, Refused, Queued, Replied}
use Rattle.gateway.specs.State.{Result}
use Rattle.gateway.specs.Reply.{room}
use Rattle.gateway.specs.Byte.{byte}
use Rattle.gateway.specs.View.{view}
use Rattle.gateway.specs.Results.{fed}

-- (01) the length of the reply that an answer tells; (ours) 0 where there is none
abbrev pub reply_length : ByteAnswer → ℕ
reply_length Nothing = 0
reply_length (Refused e) = 0
reply_length (Queued n) = 0
reply_length (Replied n) = n

-- (02) what some bytes came to: the gateway after them, the answer to each byte used, and their replies one behind the other
pub record Feed : Type 0 where
  pub gateway : Gateway
  pub answers : List ByteAnswer
  pub replies : List ℕ

-- (02) no byte was used
abbrev pub unused : Gateway → Feed
unused g = record { gateway = g; answers = []; replies = [] }

-- (02) the answer and the reply of a byte, in front of those of the bytes after it
abbrev pub first : Result ByteAnswer → Feed → Feed
first x rest = record { gateway = rest.gateway; answers = x.answer ∷ rest.answers; replies = x.reply ++ rest.replies }

-- (02) "when fewer than 32 bytes of the reply area are left" it stops; `full` is whether fewer are left
abbrev pub unless_full : (full : Bool) → Gateway → Result ByteAnswer → Feed → Feed
unless_full true g x rest = unused g
unless_full false g x rest = first x rest

-- (02) each byte in turn with what is left of a reply area of n bytes: tested before each byte (D-113), and "each reply
-- directly behind the one before"
unfoldable pub feed : Gateway → Line → (n : ℕ) → List ℕ → Feed
feed g l n [] = unused g
feed g l n (b ∷ bs) =
    let x = byte (view g) l b n in
    unless_full (ltb n room) g x (feed (fed g x).gateway l (n - length x.reply) bs)

-- (02) "what one byte at a time gives": each byte with a reply buffer of its own, of 32 bytes
unfoldable pub one_by_one : Gateway → Line → List ℕ → Feed
one_by_one g l [] = unused g
one_by_one g l (b ∷ bs) =
    let x = byte (view g) l b room in
    first x (one_by_one (fed g x).gateway l bs)
