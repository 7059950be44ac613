-- Blocks among the calls of a host in C: `tha_block` is the byte calls of the bytes that it used, and C reads what they came to.
-- Assumes nothing.
use Prim.Native.Nat.{ℕ}
use mathlib.Core.Path.{◌≡◌, refl, sym, ap, ◌∙◌}
use mathlib.Core.Bool.{Bool, true, false, cond}
use mathlib.Core.List.{List, [], ◌∷◌, ◌++◌, map}
use lib.Dec.{ltb}
use lib.ListN.{length, take, drop, length-map}
use Rattle.lists.specs.Filter.{filter}
use Rattle.lists.specs.Overlay.{overlay}
use Rattle.tpck.specs.Frame.{sum}
use Rattle.updates.specs.Line.{line_of}
use Rattle.gateway.specs.declared.gateway.Gateway.{Gateway}
use Rattle.blocks.specs.Counts.{counted_numbers}
use Rattle.ledger.specs.Call.{Call, Answer, Made, gateway_after, calls_made}
use Rattle.ledger.specs.Ledger.{room_needed, is_queued}
use Rattle.ledger.specs.Blocks.{Act, most_of_block, reply_in, taken_said, times_said, replies_in, byte_calls, calls_in, said_in}
use Rattle.ledger.proofs.Blocks.{block_right}
use Rattle.capi.specs.Host.{HostCall, HostMade, handed, host_after, host_made, as_call, says, as_made}
use Rattle.capi.specs.Host.HostCall.{Byte}
use Rattle.capi.specs.Blocks.{HostAct, host_bytes, host_calls_in, after_host_act, host_list_of, host_acts_after, said_by, host_said, BlockRead}
use Rattle.capi.specs.Blocks.HostAct.{One, Block}
use Rattle.capi.proofs.Reading.{call_handed, call_says, as_calls, after_is, made_is}

-- ---- what C reads after calls

said_made : (ms : List HostMade) → said_by ms ≡ map (λ m. m.answer) (map as_made ms)
said_made [] = refl
said_made (m ∷ ms) = ap (λ (l : List Answer). says m.read ∷ l) (said_made ms)

-- what C reads after calls says what they answer
pub said_by_lem : (g : Gateway) (cs : List HostCall) → said_by (host_made g cs) ≡ map (λ m. m.answer) (calls_made g (as_calls cs))
said_by_lem g cs = said_made (host_made g cs) ∙ ap (λ (l : List Made). map (λ m. m.answer) l) (made_is g cs)

-- ---- the byte calls of a block

bytes_if : (full : Bool) (c : HostCall) (rest : List HostCall) (calls : List Call) → as_calls rest ≡ calls
    → as_calls (cond full [] (c ∷ rest)) ≡ cond full [] (as_call c ∷ calls)
bytes_if true c rest calls e = refl
bytes_if false c rest calls e = ap (λ (l : List Call). as_call c ∷ l) e

module _ (l : ℕ) where
  -- they are those of the block in demand 3's list
  bytes_are : (g : Gateway) (area bs : List ℕ) → as_calls (host_bytes g l area bs) ≡ byte_calls g (line_of l) area bs
  unfolding host_bytes byte_calls
  bytes_are g area [] = refl
  bytes_are g area (b ∷ bs) =
      let c : HostCall = Byte l b area in
      let x = handed g c in
      let left = drop (length (reply_in (says x.read))) area in
      let same : byte_calls x.gateway (line_of l) left bs ≡ _ =
      λ i. byte_calls (call_handed g c i) (line_of l) (drop (length (reply_in (call_says g c i))) area) bs in
      bytes_if (ltb (length area) room_needed) c (host_bytes x.gateway l left bs) _ (bytes_are x.gateway left bs ∙ same)

  bytes_none : (g : Gateway) (area bs : List ℕ) → ltb (length area) room_needed ≡ true → host_bytes g l area bs ≡ []
  unfolding host_bytes
  bytes_none g area [] e = refl
  bytes_none g area (b ∷ bs) e = rw e

-- ---- a block

module _ (g : Gateway) (l : ℕ) (bytes area : List ℕ) where
  -- the block in demand 3's list
  abbrev as_block : Act
  as_block = Act.Block (line_of l) bytes area

  abbrev stands_for : List HostCall
  stands_for = host_calls_in g (Block l bytes area)

  stands_so : as_calls stands_for ≡ calls_in g as_block
  stands_so = bytes_are l g area (take most_of_block bytes)

  said_so : said_in g as_block ≡ host_said g (Block l bytes area)
  said_so = sym (said_by_lem g stands_for ∙ ap (λ (cs : List Call). map (λ m. m.answer) (calls_made g cs)) stands_so)

  pub block_read : BlockRead g l bytes area
  block_read =
      let b = block_right g (line_of l) bytes area in
      record {
        refused = b.refused;
        none = bytes_none l g area (take most_of_block bytes);
        gateway = after_is g stands_for ∙ ap (gateway_after g) stands_so ∙ b.gateway;
        used = b.used ∙ ap length (sym stands_so) ∙ length-map stands_for as_call;
        numbers = b.numbers ∙ ap (λ (said : List Answer). map (λ k. times_said k said) counted_numbers) said_so;
        queued = b.queued ∙ ap (λ (said : List Answer). length (filter is_queued said)) said_so;
        body = b.body ∙ ap (λ (said : List Answer). sum (map taken_said said)) said_so;
        written = b.written ∙ ap (λ (said : List Answer). length (replies_in said)) said_so;
        replies = b.replies ∙ ap (λ (said : List Answer). overlay (replies_in said) area) said_so;
      }

-- ---- a list of acts

-- calls after calls
after_append : (g : Gateway) (cs ds : List HostCall) → host_after g (cs ++ ds) ≡ host_after (host_after g cs) ds
unfolding host_after
after_append g [] ds = refl
after_append g (c ∷ cs) ds = after_append (handed g c).gateway cs ds

act_after : (g : Gateway) (a : HostAct) → host_after g (host_calls_in g a) ≡ after_host_act g a
unfolding host_after
act_after g (One c) = refl
act_after g (Block l bytes area) = (block_read g l bytes area).gateway

-- the gateway that the calls leave is the one that the host holds
pub acts_after : (g : Gateway) (acts : List HostAct) → host_after g (host_list_of g acts) ≡ host_acts_after g acts
unfolding host_after host_list_of host_acts_after
acts_after g [] = refl
acts_after g (a ∷ acts) =
    let rest = host_list_of (after_host_act g a) acts in
    after_append g (host_calls_in g a) rest ∙ ap (λ (h : Gateway). host_after h rest) (act_after g a)
    ∙ acts_after (after_host_act g a) acts
