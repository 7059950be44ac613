-- The block call (document 02, M-100): up to 4,096 bytes of a line, with a lent reply area.
use Rattle.std.specs.Prelude.{ℕ, ◌+◌, ◌-◌, ◌≤◌, ◌<◌, cond, List, [], ltb, length, take, Result, Ok, Err}
use Rattle.updates.specs.declared.line.Line.{Line}
use Rattle.gateway.specs.declared.gateway.Gateway.{Gateway}
use Rattle.gateway.specs.Reply.{room}
use Rattle.blocks.specs.declared.answers.BlockRefusal.{BlockRefusal}
use Rattle.blocks.specs.declared.answers.BlockRefusal.TheVariants.{Short}
use Rattle.blocks.specs.declared.answers.Used.{Used}
use Rattle.blocks.specs.declared.answers.Blocked.{Blocked}
use Rattle.blocks.specs.Counts.{counted}
use Rattle.blocks.specs.Feed.{Feed, feed}

-- (02) "of a longer block it uses at most 4,096"
abbrev pub most_used : ℕ
most_used = 4096

-- (02) what a block did: how many bytes it used and how many bytes of replies it wrote, or why it used none
abbrev pub BlockAnswer : Type 0
BlockAnswer = Result Used BlockRefusal

-- (ours) a block that used n bytes and wrote k
abbrev pub used : (n k : ℕ) → BlockAnswer
used n k = Ok (record { bytes = n; written = k })

-- (02) 1 where the area is under 32 bytes
abbrev pub refusal_number : BlockRefusal → ℕ
refusal_number Short = 1

-- (02) the number of a refusal; (ours, D-45) 0 is no refusal
abbrev pub block_number : BlockAnswer → ℕ
block_number (Err e) = refusal_number e
block_number (Ok x) = 0

-- (02) how many bytes it used; none where it is refused
abbrev pub used_in : BlockAnswer → ℕ
used_in (Err e) = 0
used_in (Ok x) = x.bytes

-- (02) how many bytes of replies it wrote; none where it is refused
abbrev pub written_in : BlockAnswer → ℕ
written_in (Err e) = 0
written_in (Ok x) = x.written

-- (02) the byte calls of a block with an area of n bytes; none where the area is under 32 bytes
abbrev pub feed_of : Gateway → Line → List ℕ → ℕ → Feed
feed_of g l bytes n = feed g l n (take most_used bytes)

-- (02) refused: "nothing used", the gateway as before, all counts 0
abbrev pub refused : Gateway → Blocked
refused g = record { gateway = g; answer = Err Short; counts = counted [] }

-- (02) the gateway after the byte calls, "how many bytes it used, how many it wrote, and how often each of the numbers 3 to 16 and
-- queued came up"; (02, M-102) and the body bytes of all drops
abbrev pub blocked_by : Feed → Blocked
blocked_by x = record { gateway = x.gateway; answer = used (length x.answers) (length x.replies); counts = counted x.answers }

-- (02) the block call: "an area under 32 bytes is 1, nothing used, also for an empty block"
unfoldable pub block : Gateway → Line → List ℕ → (n : ℕ) → Blocked
block g l bytes n = cond (ltb n room) (refused g) (blocked_by (feed_of g l bytes n))

-- ---- in words: where it stops (proved in proofs/Theorems.antt)

-- (02) a block stops at its end, at 4,096 bytes, or when fewer than 32 bytes of the area are left, and at no byte before
pub record StopsRight (g : Gateway) (l : Line) (bytes : List ℕ) (n : ℕ) : Type 0 where
  -- (02) at most the block's bytes, and at most 4,096
  pub within : length (feed_of g l bytes n).answers ≤ length (take most_used bytes)
  -- (02) where bytes are left that it might use, fewer than 32 bytes of the area are
  pub stopped : length (feed_of g l bytes n).answers < length (take most_used bytes) → n - length (feed_of g l bytes n).replies < room
  -- (02) before each byte used there were 32 bytes or more: the bytes before it left so many
  pub roomy : (k : ℕ) → k < length (feed_of g l bytes n).answers → room + length (feed g l n (take k bytes)).replies ≤ n
  -- (02) so all replies fit the area
  pub fits : length (feed_of g l bytes n).replies ≤ n
