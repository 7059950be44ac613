-- A line cut into blocks (document 02, M-100): "carrying on from there, any cutting of the same line gives the replies, summed counts
-- and final gateway that one byte at a time gives, where no other call on the gateway comes between".
use Rattle.std.specs.Prelude.{ℕ, ◌+◌, ◌≡◌, List, [], ◌∷◌, ◌++◌, length, take, drop}
use Rattle.lists.specs.Overlay.{overlay}
use Rattle.updates.specs.declared.line.Line.{Line}
use Rattle.gateway.specs.declared.gateway.Gateway.{Gateway}
use Rattle.blocks.specs.declared.counts.Counts.{Counts}
use Rattle.blocks.specs.declared.answers.Blocked.{Blocked}
use Rattle.blocks.specs.Counts.{counted}
use Rattle.blocks.specs.Feed.{Feed, one_by_one}
use Rattle.blocks.specs.Block.{block, feed_of, used_in, written_in}

-- (02) a block call of a cutting: how many of the bytes not yet used it is handed, and the area that it is lent
pub record Cut : Type 0 where
  pub size : ℕ
  pub area : List ℕ

-- (ours) two lists of numbers added place by place
abbrev pub added : List ℕ → List ℕ → List ℕ
added [] l = l
added (x ∷ k) [] = x ∷ k
added (x ∷ k) (y ∷ l) = (x + y) ∷ added k l

-- (02) "summed counts"
abbrev pub summed : Counts → Counts → Counts
summed a b = record { numbers = added a.numbers b.numbers; queued = a.queued + b.queued; body = a.body + b.body }

-- (02) what the blocks of a cutting come to: how many bytes they used, the written parts of their areas one after another, the counts
-- summed, and the final gateway
pub record Total : Type 0 where
  pub used : ℕ
  pub written : List ℕ
  pub counts : Counts
  pub gateway : Gateway

-- (02) what a block call left in its area: the replies, and behind them what stood there
abbrev pub area_after : Gateway → Line → List ℕ → List ℕ → List ℕ
area_after g l bytes area = overlay (feed_of g l bytes (length area)).replies area

-- (02) a block call in front of those that carry on after it
abbrev pub and_then : Blocked → (area : List ℕ) → Total → Total
and_then r area rest =
    record {
      used = used_in r.answer + rest.used;
      written = take (written_in r.answer) area ++ rest.written;
      counts = summed r.counts rest.counts;
      gateway = rest.gateway;
    }

-- (02) the blocks one after another, each carrying on at the bytes not yet used; a block that is refused uses none
unfoldable pub in_blocks : Gateway → Line → List Cut → (line : List ℕ) → Total
in_blocks g l [] line = record { used = 0; written = []; counts = counted []; gateway = g }
in_blocks g l (c ∷ cs) line =
    let bytes = take c.size line in
    let r = block g l bytes (length c.area) in
    and_then r (area_after g l bytes c.area) (in_blocks r.gateway l cs (drop (used_in r.answer) line))

-- (02) what the used bytes give one byte at a time
abbrev pub total_of : ℕ → Feed → Total
total_of n x = record { used = n; written = x.replies; counts = counted x.answers; gateway = x.gateway }

-- (02) every cutting of every line, from every gateway
abbrev pub AnyCutting : Gateway → Line → List Cut → List ℕ → Type 0
AnyCutting g l cuts line =
    let n = (in_blocks g l cuts line).used in
    (in_blocks g l cuts line ≡ total_of n (one_by_one g l (take n line))) × (length (one_by_one g l (take n line)).answers ≡ n)
