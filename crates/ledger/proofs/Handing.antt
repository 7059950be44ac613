-- The hand-over of the gateway that a list of calls left: the writer's frames, by its own calls, are accepted and give the same values
-- and rows. Assumes nothing.
use mathlib.Core.Path.{◌≡◌, refl, sym, ap, ◌∙◌, subst}
use mathlib.Core.Bool.{Bool, true, false}
use mathlib.Core.List.{List, [], ◌∷◌, ◌++◌, append-nil, append_assoc}
use Prim.Native.Nat.{ℕ, zero, suc, ◌+◌, ◌*◌, ◌≤◌}
use lib.Dec.{ltb}
use lib.ListN.{length}
use Rattle.lists.specs.Filter.{every, All}
use Rattle.lists.specs.Overlay.{overlay}
use Rattle.lists.proofs.Filters.{all_append}
use Rattle.updates.specs.declared.update.Update.{Update}
use Rattle.gateway.specs.declared.gateway.Gateway.{Gateway}
use Rattle.gateway.specs.State.{State, Result}
use Rattle.gateway.specs.View.{view}
use Rattle.gateway.specs.Reply.{room}
use Rattle.transfer.specs.Hand.{HandAnswer}
use Rattle.transfer.specs.Hand.{line_at, hand_queue, hand_in, hand}
use Rattle.transfer.specs.Reading.{read}
use Rattle.transfer.specs.Ready.{Ready}
use Rattle.transfer.specs.Statement.{gathered}
use Rattle.transfer.proofs.Gathered.{handed_over}
use Rattle.ledger.specs.Call.{Call, Made, hand_says, run_other, run, gateway_after, calls_made}
use Rattle.ledger.specs.Call.OtherCall.{Hand}
use Rattle.ledger.specs.Call.Call.{Other}
use Rattle.ledger.specs.Ledger.{last_tick}
use Rattle.ledger.specs.Demand3.{frame_answer}
use Rattle.ledger.specs.Drained.{no_byte, ticks_in}
use Rattle.ledger.specs.Start.{Start, gateway_of}
use Rattle.ledger.specs.Possible.{Possible, PossibleStart}
use Rattle.ledger.specs.Handing.{hand_calls, frame_in, frames_in, HandsOver}
use Rattle.ledger.proofs.Calls.{frame_said}
use Rattle.ledger.proofs.Drained.{drained}
use Rattle.ledger.proofs.Ready.{ready}

-- ---- a list of calls after another

after_append : (g : Gateway) (cs ds : List Call) → gateway_after g (cs ++ ds) ≡ gateway_after (gateway_after g cs) ds
unfolding gateway_after
after_append g [] ds = refl
after_append g (c ∷ cs) ds = after_append (run g c).gateway cs ds

made_append : (g : Gateway) (cs ds : List Call) → calls_made g (cs ++ ds) ≡ calls_made g cs ++ calls_made (gateway_after g cs) ds
unfolding gateway_after calls_made
made_append g [] ds = refl
made_append g (c ∷ cs) ds = ap (λ (l : List Made). record { call = c; answer = (run g c).answer } ∷ l) (made_append (run g c).gateway cs ds)

frames_append : (k l : List Made) → frames_in (k ++ l) ≡ frames_in k ++ frames_in l
frames_append [] l = refl
frames_append (m ∷ k) l =
    ap (λ (b : List ℕ). frame_in m.answer ++ b) (frames_append k l) ∙ sym (append_assoc (frame_in m.answer) (frames_in k) (frames_in l))

-- ---- one frame

module _ (g : State) (place : ℕ) (lent : List ℕ) where
  abbrev Brings : Result HandAnswer → Type 0
  Brings m = frame_in (hand_says m.answer (overlay m.reply lent)) ≡ m.reply

  frame_brings : (line : List ℕ) → frame_in (frame_answer line) ≡ line
  frame_brings [] = refl
  frame_brings (x ∷ l) = refl

  queue_brings : (q : List Update) → Brings (hand_queue g place q)
  unfolding hand_queue
  queue_brings [] = ap frame_in (frame_said (line_at g place) lent) ∙ frame_brings (line_at g place)
  queue_brings (u ∷ q) = refl

  hand_brings : (short : Bool) → Brings (hand_in g place short)
  unfolding hand_in
  hand_brings true = refl
  hand_brings false = queue_brings g.queue

-- ---- all frames

module _ (g : Gateway) (lent : List ℕ) where
  hands_stay : (k : ℕ) → gateway_after g (hand_calls lent k) ≡ g
  unfolding gateway_after run run_other
  hands_stay zero = refl
  hands_stay (suc k) = after_append g (hand_calls lent k) (Other (Hand k lent) ∷ []) ∙ hands_stay k

  hands_bring : (k : ℕ) → frames_in (calls_made g (hand_calls lent k)) ≡ gathered (view g) (length lent) k
  unfolding calls_made run run_other hand
  hands_bring zero = refl
  hands_bring (suc k) =
      let one = Other (Hand k lent) ∷ [] in
      ap frames_in (made_append g (hand_calls lent k) one)
      ∙ frames_append (calls_made g (hand_calls lent k)) (calls_made (gateway_after g (hand_calls lent k)) one)
      ∙ ap (λ (x : Gateway). frames_in (calls_made g (hand_calls lent k)) ++ frames_in (calls_made x one)) (hands_stay k)
      ∙ ap (λ (l : List ℕ). frames_in (calls_made g (hand_calls lent k)) ++ l)
      (append-nil (frame_in (run g (Other (Hand k lent))).answer) ∙ hand_brings (view g) k lent (ltb (length lent) room))
      ∙ ap (λ (l : List ℕ). l ++ (hand (view g) k (length lent)).reply) (hands_bring k)

hands_over : (g : Gateway) → Ready (view g) → HandsOver g
hands_over g r w p lent h =
    let n = length (view g).table in
    ap (read w p n) (hands_bring g lent (5 + 26 * n)) ∙ (handed_over (view g) r).result w p (length lent) h

-- of every list of calls that can be made, from every start, that leaves none waiting
pub list_handed_over : (s : Start) (cs : List Call) → PossibleStart s → All Possible cs → (view (gateway_after (gateway_of s) cs)).queue ≡ []
    → HandsOver (gateway_after (gateway_of s) cs)
list_handed_over s cs p ps e = hands_over (gateway_after (gateway_of s) cs) (ready s cs p ps e)

-- and of every list after which no byte comes for 120 ticks: a host that reads the line no more can hand over by then
pub drained_handed_over : (s : Start) (cs ds : List Call) → PossibleStart s → All Possible cs → All Possible ds → every no_byte ds ≡ true → last_tick ≤ ticks_in ds
    → HandsOver (gateway_after (gateway_after (gateway_of s) cs) ds)
drained_handed_over s cs ds p ps qs n h =
    let g = gateway_of s in
    let after = after_append g cs ds in
    subst HandsOver after
    (list_handed_over s (cs ++ ds) p (all_append Possible cs ds ps qs)
    (ap (λ (x : Gateway). (view x).queue) after ∙ drained (gateway_after g cs) ds n h))
