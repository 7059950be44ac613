-- A reply on the line, and the room for it (document 01, "Numbers of refusal"; document 02, M-110).
use Rattle.std.specs.Prelude.{List, ℕ, ◌≤◌, length, take, Result}
use Rattle.std.specs.Result.{result_unwrap_or}
use Rattle.tpck.specs.declared.writer.Refusal.{Refusal}
use Rattle.tpck.specs.Frame as tpck
use Rattle.tpck.specs.Write as write
use Rattle.trpc.specs.declared.replies.Reply.{Reply}
use Rattle.trpc.specs.Judging.{record_type}

-- (01) the reply's data in a frame that holds a record
unfoldable pub on_line : List ℕ → List ℕ
on_line content = tpck.frame record_type content

-- (01) the room that a reply buffer has at least
abbrev pub room : ℕ
room = 32

-- (02, M-110) a buffer always has room for a reply of this data: no more than DateTime's 12 bytes, a body of at most 15, and at most
-- 32 bytes on the line even if each byte of the body needed an escape
pub record Fits (content : List ℕ) : Type 0 where
  pub bytes : length content ≤ 12
  pub body : length (tpck.packet record_type content) ≤ 15
  pub line : length (on_line content) ≤ room

-- ---- a reply sent

-- (ours) the data that the struct of a reply holds, also where its length is over its places
abbrev pub content_of : Reply → List ℕ
content_of x = take x.len x.bytes

-- (ours) how many bytes the frame writer has written; none where it refuses
abbrev pub bytes_of : Result ℕ Refusal → ℕ
bytes_of r = result_unwrap_or r 0

-- (01) a reply is written as the frame of a record: its length; 0 where the buffer is too short for it
abbrev pub sent : Reply → List ℕ → ℕ
sent x buffer = bytes_of (write.write record_type (content_of x) buffer)

-- (01) what the buffer then holds
abbrev pub sent_buffer : Reply → List ℕ → List ℕ
sent_buffer x buffer = write.buffer record_type (content_of x) buffer
