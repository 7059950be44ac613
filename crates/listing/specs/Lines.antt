-- The lines that the listing prints (01, "The listing program").
use Rattle.std.specs.Prelude.{ℕ, cond, List, [], ◌∷◌, ◌++◌, take}
use Rattle.text.specs.Place.{newline}
use Rattle.text.specs.Hex.{hex_bytes}
use Rattle.text.specs.Event.{event_text, event_line, drop_line, refused_word, reply_word, queued_word}
use Rattle.tpck.specs.Event.{is_drop}
use Rattle.gateway.specs.declared.answers.ByteRefusal.{ByteRefusal}
use Rattle.gateway.specs.declared.answers.ByteAnswer.{ByteAnswer}
use Rattle.gateway.specs.declared.answers.ByteAnswer.TheVariants.{Nothing, Refused, Queued, Replied}
use Rattle.gateway.specs.Answers.{byte_number, body_taken}

-- (01; 02, M-102) OFFSET drop N BODY, or OFFSET refused N
unfoldable pub refusal_line : ℕ → ByteRefusal → List ℕ
refusal_line offset e =
    cond (is_drop (byte_number e)) (drop_line offset (byte_number e) (body_taken e)) (event_line offset refused_word (byte_number e))

-- (01) OFFSET reply LENGTH BYTES; the reply's bytes are the first n
unfoldable pub reply_line : ℕ → ℕ → List ℕ → List ℕ
reply_line offset n bytes = event_text offset reply_word n ++ hex_bytes (take n bytes) ++ newline ∷ []

-- (01) the line of what a byte did: no line where it did nothing; the bytes are those of the reply, or of a buffer that it is the
-- front of
abbrev pub line : ℕ → ByteAnswer → List ℕ → List ℕ
line offset Nothing bytes = []
line offset (Refused e) bytes = refusal_line offset e
line offset (Queued n) bytes = event_line offset queued_word n
line offset (Replied n) bytes = reply_line offset n bytes

-- (ours) room for the line of one byte
abbrev pub line_room : ℕ
line_room = 256

-- (ours) the most bytes of a block of the input
abbrev pub block_size : ℕ
block_size = 8192
