-- Blocks among the calls of a host in C (document 02, M-100): `tha_block` is one `tha_byte` for each byte used, with what C reads
-- after that call; a refused block is none.
use Rattle.std.specs.Prelude.{ℕ, ◌≡◌, true, cond, List, [], ◌∷◌, ◌++◌, map, ltb, length, take, drop}
use Rattle.lists.specs.Filter.{filter}
use Rattle.lists.specs.Overlay.{overlay}
use Rattle.tpck.specs.Frame.{sum}
use Rattle.gateway.specs.declared.gateway.Gateway.{Gateway}
use Rattle.blocks.specs.Counts.{counted_numbers}
use Rattle.ledger.specs.Call.{Answer}
use Rattle.ledger.specs.Ledger.{room_needed, is_queued}
use Rattle.ledger.specs.Blocks.{most_of_block, reply_in, taken_said, times_said, replies_in}
use Rattle.capi.specs.Calls as call
use Rattle.capi.specs.Host.{HostCall, HostMade, handed, host_after, host_made, says}
use Rattle.capi.specs.Host.HostCall.{Byte}

-- (02) what a host in C does: one of the calls, or a block of a line with the area that is lent for its replies
pub data HostAct : Type 0 where
  One : HostCall → HostAct
  Block : (line : ℕ) → (bytes area : List ℕ) → HostAct

-- ---- the calls that a block stands for

-- (02) one `tha_byte` for each byte used, as long as 32 bytes of the area are left: its buffer is what the replies before it left of
-- the area
unfoldable pub host_bytes : Gateway → (line : ℕ) → (area : List ℕ) → List ℕ → List HostCall
host_bytes g l area [] = []
host_bytes g l area (b ∷ bs) =
    let x = handed g (Byte l b area) in
    let reply = reply_in (says x.read) in
    cond (ltb (length area) room_needed) [] (Byte l b area ∷ host_bytes x.gateway l (drop (length reply) area) bs)

-- (02) the calls that an act stands for
abbrev pub host_calls_in : Gateway → HostAct → List HostCall
host_calls_in g (One c) = c ∷ []
host_calls_in g (Block l bytes area) = host_bytes g l area (take most_of_block bytes)

-- (02) the gateway that the host holds after an act: as the call, or `tha_block`, hands it back
abbrev pub after_host_act : Gateway → HostAct → Gateway
after_host_act g (One c) = (handed g c).gateway
after_host_act g (Block l bytes area) = (call.block g l bytes area).blocked.gateway

-- (02) the list of calls: those of the acts, each on the gateway that the acts before it left
unfoldable pub host_list_of : Gateway → List HostAct → List HostCall
host_list_of g [] = []
host_list_of g (a ∷ acts) = host_calls_in g a ++ host_list_of (after_host_act g a) acts

-- (ours) the gateway that the host holds after the acts, as it was handed from one to the next
unfoldable pub host_acts_after : Gateway → List HostAct → Gateway
host_acts_after g [] = g
host_acts_after g (a ∷ acts) = host_acts_after (after_host_act g a) acts

-- ---- what C reads after a block

-- (ours) what C reads after some calls, in demand 3's words
abbrev pub said_by : List HostMade → List Answer
said_by ms = map (λ m. says m.read) ms

-- (02) what it reads after the calls that a block stands for
abbrev pub host_said : Gateway → HostAct → List Answer
host_said g a = said_by (host_made g (host_calls_in g a))

-- (02) what `tha_block` hands back, and leaves in the area, is what its byte calls came to
pub record BlockRead (g : Gateway) (l : ℕ) (bytes area : List ℕ) : Type 0 where
  -- (02) "an area under 32 bytes is 1", whatever the block
  pub refused : (call.block g l bytes area).blocked.number ≡ cond (ltb (length area) room_needed) 1 0
  -- (02) "nothing used": a refused block is no call of the list
  pub none : ltb (length area) room_needed ≡ true → host_calls_in g (Block l bytes area) ≡ []
  -- (02) the gateway that the byte calls leave
  pub gateway : host_after g (host_calls_in g (Block l bytes area)) ≡ (call.block g l bytes area).blocked.gateway
  -- (02) "how many bytes it used": one for each byte call
  pub used : (call.block g l bytes area).blocked.used ≡ length (host_calls_in g (Block l bytes area))
  -- (02) "how often each of the numbers 3 to 16"
  pub numbers : (call.block g l bytes area).blocked.counts.numbers
      ≡ map (λ k. times_said k (host_said g (Block l bytes area))) counted_numbers
  -- (02) "and queued came up"
  pub queued : (call.block g l bytes area).blocked.counts.queued ≡ length (filter is_queued (host_said g (Block l bytes area)))
  -- (02, M-102) "the block call as a total"
  pub body : (call.block g l bytes area).blocked.counts.body ≡ sum (map taken_said (host_said g (Block l bytes area)))
  -- (02) "how many it wrote"
  pub written : (call.block g l bytes area).blocked.written ≡ length (replies_in (host_said g (Block l bytes area)))
  -- (02) "each reply directly behind the one before", and the rest of the area as it was
  pub replies : (call.block g l bytes area).area ≡ overlay (replies_in (host_said g (Block l bytes area))) area
