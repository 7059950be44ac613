-- Blocks in demand 3's list (document 02, M-100): "in demand 3's list a block is one byte call for each byte used, with the answer that
-- call gives"; a refused block is none.
use Rattle.std.specs.Prelude.{ℕ, ◌≡◌, true, cond, List, [], ◌∷◌, ◌++◌, map, ltb, eqb, length, take, drop}
use Rattle.lists.specs.Filter.{filter}
use Rattle.lists.specs.Overlay.{overlay}
use Rattle.tpck.specs.Frame.{sum}
use Rattle.updates.specs.declared.line.Line.{Line}
use Rattle.gateway.specs.declared.gateway.Gateway.{Gateway}
use Rattle.blocks.specs.Counts.{counted_numbers}
use Rattle.blocks.specs.Block.{block_number, used_in, written_in, block}
use Rattle.blocks.specs.Cutting.{area_after}
use Rattle.ledger.specs.Call.{Call, Answer, run, gateway_after, calls_made}
use Rattle.ledger.specs.Call.Call.{Byte}
use Rattle.ledger.specs.Call.Answer.{Refused, Dropped, Done, Queued, Replied, RepliedTo, TimedOut, HeadIs}
use Rattle.ledger.specs.Ledger.{room_needed, is_queued}
use Rattle.ledger.specs.Start.{Start, gateway_of}
use Rattle.ledger.specs.Statement.{WholeList}

-- (02) "of a longer block it uses at most 4,096"; the paper's number, not that of the gateway's definitions
abbrev pub most_of_block : ℕ
most_of_block = 4096

-- (02) what a host does: a call of demand 3's list, or a block of a line, with the area that is lent for its replies
pub data Act : Type 0 where
  One : Call → Act
  Block : (line : Line) → (bytes area : List ℕ) → Act

-- ---- readings of an answer

-- (01) the bytes of the reply that an answer holds
abbrev pub reply_in : Answer → List ℕ
reply_in (Refused n) = []
reply_in (Dropped n k) = []
reply_in Done = []
reply_in (Queued n) = []
reply_in (Replied b) = b
reply_in (RepliedTo l b) = b
reply_in (TimedOut fs) = []
reply_in (HeadIs l f v) = []

-- (01) the number with which it refuses; (ours) 0 where it does not
abbrev pub number_said : Answer → ℕ
number_said (Refused n) = n
number_said (Dropped n k) = n
number_said Done = 0
number_said (Queued n) = 0
number_said (Replied b) = 0
number_said (RepliedTo l b) = 0
number_said (TimedOut fs) = 0
number_said (HeadIs l f v) = 0

-- (02, M-102) the body bytes that a drop tells; 0 of any other answer
abbrev pub taken_said : Answer → ℕ
taken_said (Refused n) = 0
taken_said (Dropped n k) = k
taken_said Done = 0
taken_said (Queued n) = 0
taken_said (Replied b) = 0
taken_said (RepliedTo l b) = 0
taken_said (TimedOut fs) = 0
taken_said (HeadIs l f v) = 0

-- (02) how often a number came up
unfoldable pub times_said : ℕ → List Answer → ℕ
times_said k said = length (filter (λ a. eqb (number_said a) k) said)

-- (02) the replies one behind the other
unfoldable pub replies_in : List Answer → List ℕ
replies_in [] = []
replies_in (a ∷ said) = reply_in a ++ replies_in said

-- ---- the calls that a block stands for

-- (02) one byte call for each byte used, as long as 32 bytes of the area are left: its buffer is what the replies before it left of the
-- area
unfoldable pub byte_calls : Gateway → Line → (area : List ℕ) → List ℕ → List Call
byte_calls g l area [] = []
byte_calls g l area (b ∷ bs) =
    let r = run g (Byte l b area) in
    cond (ltb (length area) room_needed) [] (Byte l b area ∷ byte_calls r.gateway l (drop (length (reply_in r.answer)) area) bs)

-- (02) the calls of demand 3's list that an act stands for
abbrev pub calls_in : Gateway → Act → List Call
calls_in g (One c) = c ∷ []
calls_in g (Block l bytes area) = byte_calls g l area (take most_of_block bytes)

-- (02) the gateway after an act: as the call, or the block call, hands it back
abbrev pub after_act : Gateway → Act → Gateway
after_act g (One c) = (run g c).gateway
after_act g (Block l bytes area) = (block g l bytes (length area)).gateway

-- (02) demand 3's list: the calls of the acts, each on the gateway that the acts before it left
unfoldable pub list_of : Gateway → List Act → List Call
list_of g [] = []
list_of g (a ∷ acts) = calls_in g a ++ list_of (after_act g a) acts

-- (ours) the gateway after the acts, as it was handed from one to the next
unfoldable pub acts_after : Gateway → List Act → Gateway
acts_after g [] = g
acts_after g (a ∷ acts) = acts_after (after_act g a) acts

-- ---- the statement

-- (02) the answers of the byte calls that a block stands for
abbrev pub said_in : Gateway → Act → List Answer
said_in g a = map (λ m. m.answer) (calls_made g (calls_in g a))

-- (02) what a block call hands back is what its byte calls came to
pub record BlockRight (g : Gateway) (l : Line) (bytes area : List ℕ) : Type 0 where
  -- (02) "an area under 32 bytes is 1", whatever the block
  pub refused : block_number (block g l bytes (length area)).answer ≡ cond (ltb (length area) room_needed) 1 0
  -- (02) "nothing used": a refused block is no call of the list
  pub none : ltb (length area) room_needed ≡ true → calls_in g (Block l bytes area) ≡ []
  -- (02) the gateway that the byte calls leave
  pub gateway : gateway_after g (calls_in g (Block l bytes area)) ≡ (block g l bytes (length area)).gateway
  -- (02) "how many bytes it used": one for each byte call
  pub used : used_in (block g l bytes (length area)).answer ≡ length (calls_in g (Block l bytes area))
  -- (02) "how often each of the numbers 3 to 16"
  pub numbers : (block g l bytes (length area)).counts.numbers ≡ map (λ k. times_said k (said_in g (Block l bytes area))) counted_numbers
  -- (02) "and queued came up"
  pub queued : (block g l bytes (length area)).counts.queued ≡ length (filter is_queued (said_in g (Block l bytes area)))
  -- (02, M-102) "the block call as a total"
  pub body : (block g l bytes (length area)).counts.body ≡ sum (map taken_said (said_in g (Block l bytes area)))
  -- (02) "how many it wrote"
  pub written : written_in (block g l bytes (length area)).answer ≡ length (replies_in (said_in g (Block l bytes area)))
  -- (02) "each reply directly behind the one before", and the rest of the area as it was
  pub replies : area_after g l bytes area ≡ overlay (replies_in (said_in g (Block l bytes area))) area

-- (01; 02) Demand 3 of a list of acts, from any start that a list may have
pub record WholeActs (s : Start) (acts : List Act) : Type 0 where
  -- (01) demand 3 of the calls that the acts stand for
  pub list : WholeList s (list_of (gateway_of s) acts)
  -- (02) the gateway that these calls leave is the one that the host holds
  pub gateway : gateway_after (gateway_of s) (list_of (gateway_of s) acts) ≡ acts_after (gateway_of s) acts
  -- (02) each block call handed back what its byte calls came to
  pub blocks : (before : List Act) (l : Line) (bytes area : List ℕ) (rest : List Act) → acts ≡ before ++ (Block l bytes area ∷ rest)
      → BlockRight (acts_after (gateway_of s) before) l bytes area
