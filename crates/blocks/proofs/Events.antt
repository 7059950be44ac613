-- The event that some bytes reach: what the code hands back of it is what those bytes come to, one byte call for each. Assumes
-- nothing.
use Prim.Native.Nat.{ℕ, ◌+◌, ◌-◌, ◌≤◌, ◌<◌}
use mathlib.Core.Path.{◌≡◌, sym, ap, ◌∙◌, subst}
use mathlib.Core.List.{List, [], ◌∷◌, ◌++◌}
use native.Mathlib.Omega.{arith}
use lib.ListN.{length, take, drop, get_or, replicate, length-append, length-take, length-drop, length-replicate}
use lib.Seq.{take_all, get_or-drop}
use Rattle.lists.specs.Overlay.{overlay}
use Rattle.tpck.specs.declared.receiver.Receiver.{Receiver}
use Rattle.tpck.specs.declared.control.Control.{Control}
use Rattle.tpck.specs.Frame.{places}
use Rattle.tpck.specs.Scan.{Scan, scan, joined, control_of}
use Rattle.tpck.proofs.Scans.{scan_moves, scan_used}
use Rattle.tpck.proofs.Fits.{Whole, scan_joined, scan_whole}
use Rattle.devices.specs.declared.row.Row.{Row}
use Rattle.devices.specs.declared.table.Table.{Table}
use Rattle.devices.specs.Table.{rows_of, find, find_address, row_at}
use Rattle.updates.specs.declared.line.Line.{Line}
use Rattle.updates.specs.declared.queue.Queue.{Queue}
use Rattle.trpc.specs.declared.properties.Properties.{Properties}
use Rattle.gateway.specs.declared.gateway.Gateway.{Gateway}
use Rattle.gateway.specs.declared.answers.ByteAnswer.{ByteAnswer}
use Rattle.gateway.specs.declared.answers.ByteAnswer.TheVariants as says
use Rattle.gateway.specs.State.{Result, or_else}
use Rattle.gateway.specs.Reply.{room}
use Rattle.gateway.specs.View.{receiver_on, receivers_with, put_table, put_queue, view}
use Rattle.blocks.specs.declared.parts.Moving.{Moving}
use Rattle.blocks.specs.declared.reaching.Reached.{Reached}
use Rattle.blocks.specs.declared.answering.Answered.{Answered}
use Rattle.blocks.specs.Feed.{Feed, feed, one_by_one}
use Rattle.blocks.specs.Parts.{with_moving}
use Rattle.blocks.specs.Reach.{reach}
use Rattle.blocks.specs.Answer.{Outcome, area_left, outcome_of, answer}
use Rattle.blocks.proofs.Feeds.{feed_one_by_one}
use Rattle.blocks.proofs.Stretches.{with_with, on_with, event_of, after_scan, stretch, feed_scan}
use Rattle.blocks.proofs.Deciding.{comes_to, event_decides, row_alone, place_within}
use Rattle.blocks.proofs.Settling.{Few, outcome_few, table_stays, control_kept, queue_settled, properties_ruled, answer_told, area_left_lem}

-- ---- the bytes from a place on, as the code lends them

abbrev pub from : List ℕ → ℕ → List ℕ
from bytes i = take (length bytes - i) (drop i bytes)

module _ (bytes : List ℕ) (i : ℕ) where
  pub from_drop : from bytes i ≡ drop i bytes
  from_drop = take_all (length bytes - i) (drop i bytes) (omega (arith, length-drop i bytes))

  pub from_length : length (from bytes i) ≡ length bytes - i
  from_length = ap length from_drop ∙ length-drop i bytes

  from_octets : ((k : ℕ) → get_or bytes k 0 < 256) → (k : ℕ) → get_or (from bytes i) k 0 < 256
  from_octets octets = subst (λ (l : List ℕ). (k : ℕ) → get_or l k 0 < 256) (sym from_drop) (λ k. rw (get_or-drop i bytes k 0) (octets (i + k)))

-- ---- a scan of one byte at least

some_moves : (r : Receiver) (bytes : List ℕ) → 0 < length bytes → 0 < (scan r bytes).used
some_moves r [] some = absurd (omega arith)
some_moves r (b ∷ bs) some = scan_moves r b bs

some_joined : (r : Receiver) (bytes : List ℕ) → 0 < length bytes → length (scan r bytes).next.bytes ≡ places
    → let x = (scan r bytes).next in joined (control_of x) x.bytes ≡ x
some_joined r [] some whole = absurd (omega arith)
some_joined r (b ∷ bs) some whole = scan_joined r b bs whole

some_fed : (l : Line) (g : Gateway) (n : ℕ) (bytes : List ℕ) → 0 < length bytes → room ≤ n
    → let s = scan (receiver_on g.receivers l) bytes in feed g l n (take s.used bytes) ≡ stretch l g s
some_fed l g n [] some long = absurd (omega arith)
some_fed l g n (b ∷ bs) some long = feed_scan l g n b bs long

-- ---- the bytes from i on, as the code has reached their event: the body after them is the rest

pub record Reaches (control : Control) (body addresses bytes : List ℕ) (i : ℕ) (y : Reached) (rest : List ℕ) : Type 0 where
  pub more : i < length bytes
  pub reached_is : y ≡ reach control body addresses (from bytes i)
  pub rest_is : rest ≡ (scan (joined control body) (from bytes i)).next.bytes

module _ {control : Control} {body addresses bytes : List ℕ} {i : ℕ} {y : Reached} {rest : List ℕ} (h : Reaches control body addresses bytes i y rest) where
  some : 0 < length (from bytes i)
  some = omega (arith, from_length bytes i, h.more)

  used_is : y.used ≡ (scan (joined control body) (from bytes i)).used
  unfolding reach
  used_is = ap (λ (z : Reached). z.used) h.reached_is

  pub reached_some : 0 < y.used
  reached_some = rw used_is (some_moves (joined control body) (from bytes i) some)

  pub reached_within : i + y.used ≤ length bytes
  reached_within = omega (arith, h.more, used_is, scan_used (joined control body) (from bytes i), from_length bytes i)

  -- the body keeps its places
  pub rest_whole : ((k : ℕ) → get_or bytes k 0 < 256) → Whole (joined control body) → (length rest ≡ places) × (get_or rest 0 0 < 256)
  rest_whole octets w =
      let after = scan_whole (joined control body) (from bytes i) (from_octets bytes i octets) w in
      rw h.rest_is (after.places_are, after.first_is)

  -- the place is within any array of as many places as addresses, and one at least
  pub reached_place : (m : ℕ) → 0 < m → length addresses ≤ m → y.place < m
  unfolding reach
  reached_place m one few =
      let s = scan (joined control body) (from bytes i) in
      rw h.reached_is (place_within addresses m one few s.event s.next.bytes)

-- ---- what the event comes to, by the row that decides

module _ (g : Gateway) (l : Line) (moving : Moving) (body part : List ℕ) where
  -- the gateway before the bytes
  abbrev pub held : Gateway
  held = with_moving g l moving body

  abbrev s : Scan
  s = scan (joined moving.control body) part

  -- the result of their event
  abbrev pub event_in : Result ByteAnswer
  event_in = event_of l held s

  module _ (addresses : List ℕ) (same : (a : ℕ) → find (rows_of g.table) a ≡ find_address addresses a) (row : Row) where
    abbrev x : Reached
    x = reach moving.control body addresses part

    abbrev after : List ℕ
    after = s.next.bytes

    abbrev o : Outcome
    o = outcome_of x row after moving.properties

    module _ (row_is : x.place < length addresses → row ≡ row_at (rows_of g.table) x.place) where
      decided : event_in ≡ comes_to (view held) l o
      unfolding reach
      decided =
          event_decides (view held) l addresses same (joined moving.control body) part
          ∙ ap (comes_to (view held) l) (sym (row_alone addresses row (row_at (rows_of g.table) x.place) _ moving.properties s.event after row_is))

      few : Few o
      few = outcome_few row _ moving.properties x.asked

      module _ (area : List ℕ) (long : room ≤ length area) where
        abbrev y : Answered
        y = answer moving l x row after area

        answered : y.answer ≡ event_in.answer
        unfolding answer
        answered = answer_told held l x.control area long o few ∙ ap (λ (z : Result ByteAnswer). z.answer) (sym decided)

        leaves : area_left o area ≡ overlay event_in.reply area
        leaves = area_left_lem held l x.control area long o few ∙ ap (λ (z : Result ByteAnswer). overlay z.reply area) (sym decided)

        kept : 0 < length part → length after ≡ places → after_scan l held s ≡ with_moving g l y.moving after
        unfolding answer reach
        kept some whole =
            let next = with_with g.receivers l (joined moving.control body) s.next
            ∙ ap (receivers_with g.receivers l) (sym (some_joined (joined moving.control body) part some whole))
            ∙ ap (λ (c : Control). receivers_with g.receivers l (joined c after)) (sym (control_kept held l x.control area o)) in
            let table = ap (λ (z : Result ByteAnswer). put_table_lem z) decided ∙ table_stays held l o in
            let queue = ap (λ (z : Result ByteAnswer). put_queue_lem z) decided ∙ sym (queue_settled held l x.control area o) in
            let properties = ap (λ (z : Result ByteAnswer). put_properties z) decided ∙ sym (properties_ruled held l x.control area o) in
            λ i. record { receivers = next i; table = table i; queue = queue i; properties = properties i }
          where
            put_table_lem : Result ByteAnswer → Table
            put_table_lem z = put_table g.table z.effect.table

            put_queue_lem : Result ByteAnswer → Queue
            put_queue_lem z = put_queue moving.queue z.effect.queue

            put_properties : Result ByteAnswer → Properties
            put_properties z = or_else moving.properties z.effect.properties

-- ---- its answer, as the code has it: the row at its place, and what is left in the area

pub record Answers (g : Gateway) (l : Line) (moving : Moving) (body addresses bytes : List ℕ) (i : ℕ) (y : Reached) (rest : List ℕ) (row : Row) (area : List ℕ) (z : Answered) (left : List ℕ) : Type 0 where
  pub reaches : Reaches moving.control body addresses bytes i y rest
  pub same : (a : ℕ) → find (rows_of g.table) a ≡ find_address addresses a
  pub row_is : y.place < length addresses → row ≡ row_at (rows_of g.table) y.place
  pub long : room ≤ length area
  pub answered_is : z ≡ answer moving l y row rest area
  pub left_is : left ≡ area_left (outcome_of y row rest moving.properties) area

module _ {g : Gateway} {l : Line} {moving : Moving} {body addresses bytes : List ℕ} {i : ℕ} {y : Reached} {rest : List ℕ} {row : Row} {area : List ℕ} {z : Answered} {left : List ℕ}
    (h : Answers g l moving body addresses bytes i y rest row area z left) where
  abbrev part : List ℕ
  part = from bytes i

  abbrev sc : Scan
  sc = scan (joined moving.control body) part

  row_at_lem : let x = reach moving.control body addresses part in x.place < length addresses → row ≡ row_at (rows_of g.table) x.place
  row_at_lem = rw h.reaches.reached_is at h.row_is

  answered_at : z ≡ answer moving l (reach moving.control body addresses part) row sc.next.bytes area
  answered_at = h.answered_is ∙ (λ k. answer moving l (h.reaches.reached_is k) row (h.reaches.rest_is k) area)

  -- the answer, and the area with the reply at its front
  pub said_is : z.answer ≡ (event_in g l moving body part).answer
  said_is = ap (λ (w : Answered). w.answer) answered_at ∙ answered g l moving body part addresses h.same row row_at_lem area h.long

  pub laid_is : left ≡ overlay (event_in g l moving body part).reply area
  laid_is =
      h.left_is ∙ (λ k. area_left (outcome_of (h.reaches.reached_is k) row (h.reaches.rest_is k) moving.properties) area)
      ∙ leaves g l moving body part addresses h.same row row_at_lem area h.long

  -- all but the last of the bytes did nothing; the last is answered so, and the gateway has the parts and the body after them
  abbrev pub reached_feed : Feed
  reached_feed = record { gateway = with_moving g l z.moving rest; answers = replicate (y.used - 1) says.Nothing ++ (z.answer ∷ []); replies = (event_in g l moving body part).reply }

  pub reached_fed : length rest ≡ places → (n : ℕ) → room ≤ n → feed (with_moving g l moving body) l n (take y.used part) ≡ reached_feed
  reached_fed whole n roomy =
      let before = with_moving g l moving body in
      let used = used_is h.reaches in
      let on = ap (λ (r : Receiver). scan r part) (on_with g.receivers l (joined moving.control body)) in
      let fed-is = subst (λ (x : Scan). feed before l n (take x.used part) ≡ stretch l before x) on (some_fed l before n part (some h.reaches) roomy) in
      let whole-at : length sc.next.bytes ≡ places = rw h.reaches.rest_is at whole in
      let after =
      kept g l moving body part addresses h.same row row_at_lem area h.long (some h.reaches) whole-at
      ∙ (λ k. with_moving g l (sym answered_at k).moving (sym h.reaches.rest_is k)) in
      ap (λ (k : ℕ). feed before l n (take k part)) used ∙ fed-is
      ∙ (λ k. record { gateway = after k; answers = replicate (sym used k - 1) says.Nothing ++ (sym said_is k ∷ []); replies = (event_in g l moving body part).reply })

  -- so one byte at a time gives it, too
  pub reached_one_by_one : length rest ≡ places → one_by_one (with_moving g l moving body) l (take y.used part) ≡ reached_feed
  reached_one_by_one whole =
      let before = with_moving g l moving body in
      let bs = take y.used part in
      let fed-is = reached_fed whole room (omega arith) in
      let quiet = replicate (y.used - 1) says.Nothing in
      let last = z.answer ∷ [] in
      let many : length (quiet ++ last) ≡ y.used = omega (arith, length-append quiet last, length-replicate (y.used - 1) says.Nothing, reached_some h.reaches) in
      let n = length (feed before l room bs).answers in
      let all : take n bs ≡ bs = take_all n bs (omega (arith, ap (λ (f : Feed). length f.answers) fed-is, many, length-take y.used part)) in
      sym (feed_one_by_one l before room bs ∙ ap (one_by_one before l) all) ∙ fed-is
