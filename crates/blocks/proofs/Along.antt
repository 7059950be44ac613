-- The bytes of a block so far: what the code holds after some of them is what they come to, one byte call for each. Assumes nothing.
use Prim.Native.Nat.{ℕ, zero, suc, ◌+◌, ◌-◌, ◌≤◌, ◌<◌}
use mathlib.Core.Path.{◌≡◌, refl, sym, ap, ◌∙◌, subst}
use mathlib.Core.List.{List, [], ◌∷◌, ◌++◌, append-nil, append_assoc}
use native.Mathlib.Omega.{arith}
use lib.ListN.{length, take, drop, replicate, length-append, length-drop, length-replicate, take-append-drop, drop_of_length-le}
use lib.Seq.{length-take-le, take-add, take_all}
use Rattle.lists.specs.Filter.{All}
use Rattle.lists.specs.Overlay.{overlay}
use Rattle.lists.proofs.Counted.{counted_cut}
use Rattle.lists.proofs.Filters.{all_append}
use Rattle.lists.proofs.Overlays.{overlay_nil, overlay_behind}
use Rattle.tpck.specs.declared.event.Event.{Event}
use Rattle.tpck.specs.declared.event.Event.TheVariants as event
use Rattle.tpck.specs.declared.receiver.Receiver.{Receiver}
use Rattle.tpck.specs.Frame.{places, sum, data_of}
use Rattle.tpck.specs.Receive as receive
use Rattle.tpck.specs.Scan.{scan}
use Rattle.tpck.specs.Scan as scan
use Rattle.tpck.proofs.Fits.{scan_taken}
use Rattle.devices.specs.declared.row.Row.{Row}
use Rattle.updates.specs.declared.line.Line.{Line}
use Rattle.updates.specs.declared.line.Line.TheVariants.{Controller, Panel}
use Rattle.gateway.specs.declared.gateway.Gateway.{Gateway}
use Rattle.gateway.specs.declared.answers.ByteAnswer.{ByteAnswer}
use Rattle.gateway.specs.declared.answers.ByteAnswer.TheVariants as says
use Rattle.gateway.specs.State.{State, Result}
use Rattle.gateway.specs.Reply.{room}
use Rattle.gateway.specs.Writes.{ByteWrites}
use Rattle.gateway.specs.Writes.ByteWrites.{nothing, refused, queued, replied}
use Rattle.gateway.specs.Byte.{frame, byte_event}
use Rattle.gateway.specs.View.{view}
use Rattle.gateway.proofs.Taken.{NoDrop, frame_taken}
use Rattle.gateway.proofs.Theorems.{event_writes}
use Rattle.blocks.specs.declared.counts.Counts.{Counts}
use Rattle.blocks.specs.declared.parts.Moving.{Moving}
use Rattle.blocks.specs.declared.reaching.Reached.{Reached}
use Rattle.blocks.specs.declared.answering.Answered.{Answered}
use Rattle.blocks.specs.Counts.{with, taken_in, times, times_queued, total_taken, counted}
use Rattle.blocks.specs.Feed.{reply_length, Feed, feed}
use Rattle.blocks.specs.declared.answers.Blocked.{Blocked}
use Rattle.blocks.specs.Block.{used, blocked_by}
use Rattle.blocks.specs.Parts.{moving_of, body_of, with_moving}
use Rattle.blocks.proofs.Feeds.{joined, feed_append, feed_full}
use Rattle.blocks.proofs.Noting.{counted_more, counted_quiet}
use Rattle.blocks.proofs.Stretches.{event_of, feed_cut}
use Rattle.blocks.proofs.Events.{from, from_drop, from_length, Answers, event_in, said_is, laid_is, reached_feed, reached_fed, reached_some, reached_within}

-- the gateway whose line's receiver counts no more bytes than its places
abbrev pub start : Gateway → Line → Gateway
start g l = with_moving g l (moving_of g l) (body_of g l)

-- what the first i bytes come to, with an area of n bytes
abbrev pub done : Gateway → Line → List ℕ → (n i : ℕ) → Feed
done g l bytes n i = feed (start g l) l n (take i bytes)

-- after the first i bytes, with the area as it was before them: the area now, the parts that move, the counts, and how many bytes of
-- replies stand in the area
pub record Along (g : Gateway) (l : Line) (bytes before area body : List ℕ) (moving : Moving) (counts : Counts) (at i : ℕ) : Type 0 where
  pub within : i ≤ length bytes
  pub used : length (done g l bytes (length before) i).answers ≡ i
  pub gateway_is : (done g l bytes (length before) i).gateway ≡ with_moving g l moving body
  pub at_is : at ≡ length (done g l bytes (length before) i).replies
  pub area_is : area ≡ overlay (done g l bytes (length before) i).replies before
  pub fits : at ≤ length before
  pub counts_are : counts ≡ counted (done g l bytes (length before) i).answers
  pub bodies : All (λ a. taken_in a ≤ places) (done g l bytes (length before) i).answers

-- ---- an event

-- an answer whose count of body bytes is within the receiver's places
abbrev Taken : ByteAnswer → Type 0
Taken a = taken_in a ≤ places

-- the answer tells the length of its reply, which has room
writes_length : (a : ByteAnswer) (reply : List ℕ) → ByteWrites a reply → (reply_length a ≡ length reply) × (length reply ≤ room)
writes_length _ _ nothing = (refl, omega arith)
writes_length _ _ (refused e) = (refl, omega arith)
writes_length _ _ (queued n few) = (refl, omega arith)
writes_length _ _ (replied content fits) = (refl, fits.line)

no_drop_none : (a : ByteAnswer) → NoDrop a → taken_in a ≤ places
no_drop_none says.Nothing h = omega arith
no_drop_none (says.Refused e) h = omega (arith, h.1)
no_drop_none (says.Queued n) h = omega arith
no_drop_none (says.Replied n) h = omega arith

module _ (g : Gateway) (l : Line) (r : Receiver) (bytes : List ℕ) (whole : length (scan r bytes).next.bytes ≡ places) where
  event_taken : taken_in (event_of l g (scan r bytes)).answer ≤ places
  unfolding byte_event
  event_taken = go (scan r bytes).event refl
    where
      go : (v : Event) → (scan r bytes).event ≡ v → taken_in (byte_event (view g) l (receive.view (scan r bytes).next).body v).answer ≤ places
      go event.Nothing e = omega arith
      go (event.Dropped d n) e = omega (arith, scan_taken r bytes d n e)
      go (event.Frame ptype size) e =
          let c = data_of (receive.view (scan r bytes).next).body in
          no_drop_none (frame (view g) l ptype c).answer (frame_taken (view g) l ptype c)

-- ---- the steps of the loop

quiet_none : (n : ℕ) → All (λ a. taken_in a ≤ places) (replicate n says.Nothing)
quiet_none zero = tt
quiet_none (suc n) = (omega arith, quiet_none n)

pub along_none : (g : Gateway) (l : Line) (bytes before : List ℕ)
    → Along g l bytes before before (body_of g l) (moving_of g l) (counted []) 0 0
unfolding feed counted times times_queued total_taken sum
along_none g l bytes before =
    record {
      within = omega arith;
      used = refl;
      gateway_is = refl;
      at_is = refl;
      area_is = sym (overlay_nil before);
      fits = omega arith;
      counts_are = refl;
      bodies = tt;
    }

module _ {g : Gateway} {l : Line} {bytes before area body : List ℕ} {moving : Moving} {counts : Counts} {at i : ℕ} (u : Along g l bytes before area body moving counts at i) where
  abbrev n : ℕ
  n = length before

  -- the bytes so far, and more of them
  further : (more : List ℕ) → feed (start g l) l n (take i bytes ++ more) ≡ joined (done g l bytes n i) (feed (with_moving g l moving body) l (n - at) more)
  further more =
      let all = u.used ∙ sym (length-take-le i bytes u.within) in
      feed_append l (start g l) n (take i bytes) more all
      ∙ (λ k. joined (done g l bytes n i) (feed (u.gateway_is k) l (n - sym u.at_is k) more))

  pub area_length : length area ≡ n
  unfolding overlay
  area_length =
      let replies = (done g l bytes n i).replies in
      let laid = ap length u.area_is ∙ length-append replies (drop (length replies) before) in
      omega (arith, laid, length-drop (length replies) before, u.at_is, u.fits)

  -- the loop is over: no byte is left, or too little room
  pub along_all : length bytes ≤ i → feed (start g l) l n bytes ≡ done g l bytes n i
  along_all h = ap (feed (start g l) l n) (sym (take_all i bytes h))

  pub along_full : n - at < room → feed (start g l) l n bytes ≡ done g l bytes n i
  along_full h =
      let d = done g l bytes n i in
      ap (feed (start g l) l n) (sym (take-append-drop i bytes)) ∙ further (drop i bytes)
      ∙ ap (joined d) (feed_full l (with_moving g l moving body) (n - at) (drop i bytes) h)
      ∙ (λ k. record { gateway = sym u.gateway_is k; answers = append-nil d.answers k; replies = append-nil d.replies k })

  -- the same by other names
  pub along_as : {c : Counts} {k : ℕ} → c ≡ counts → k ≡ at → Along g l bytes before area body moving c k i
  along_as ec ek =
      record {
        within = u.within;
        used = u.used;
        gateway_is = u.gateway_is;
        at_is = ek ∙ u.at_is;
        area_is = u.area_is;
        fits = omega (arith, ek, u.fits);
        counts_are = ec ∙ u.counts_are;
        bodies = u.bodies;
      }

  -- what the block comes to, where these bytes are all that it uses
  pub along_told : (x : Feed) → x ≡ done g l bytes n i → (h : Gateway) → h ≡ with_moving g l moving body
      → (◌≡◌ {A = Blocked} (record { gateway = h; answer = used i at; counts = counts }) (blocked_by x)) × (area ≡ overlay x.replies before)
  along_told x e h is =
      let after = is ∙ sym u.gateway_is in (
        (λ k. record { gateway = after k; answer = used (sym u.used k) (u.at_is k); counts = u.counts_are k }) ∙ ap blocked_by (sym e),
        u.area_is ∙ ap (λ (y : Feed). overlay y.replies before) (sym e),
      )

  -- one event more, with the area from the place after the last reply on
  module _ {addresses : List ℕ} {y : Reached} {rest : List ℕ} {row : Row} {z : Answered} {left : List ℕ}
      (h : Answers g l moving body addresses bytes i y rest row (from area at) z left) (whole : length rest ≡ places) where
    abbrev ev : Result ByteAnswer
    ev = event_in g l moving body (from bytes i)

    fed_more : done g l bytes n (i + y.used) ≡ joined (done g l bytes n i) (reached_feed h)
    fed_more =
        let part = take-add i y.used bytes ∙ ap (λ (r : List ℕ). take i bytes ++ take y.used r) (sym (from_drop bytes i)) in
        ap (feed (start g l) l n) part ∙ further (take y.used (from bytes i))
        ∙ ap (joined (done g l bytes n i)) (reached_fed h whole (n - at) (omega (arith, h.long, from_length area at, area_length)))

    -- its answers in two parts: those that did nothing, and the last
    abbrev quiet : List ByteAnswer
    quiet = replicate (y.used - 1) says.Nothing

    answers_more : (done g l bytes n (i + y.used)).answers ≡ ((done g l bytes n i).answers ++ quiet) ++ (z.answer ∷ [])
    answers_more = ap (λ (f : Feed). f.answers) fed_more ∙ sym (append_assoc (done g l bytes n i).answers quiet (z.answer ∷ []))

    replies_more : (done g l bytes n (i + y.used)).replies ≡ (done g l bytes n i).replies ++ ev.reply
    replies_more = ap (λ (f : Feed). f.replies) fed_more

    -- the answer tells the length of its reply, which has room
    written : (reply_length z.answer ≡ length ev.reply) × (length ev.reply ≤ room)
    written =
        let s = scan (scan.joined moving.control body) (from bytes i) in
        let w = writes_length ev.answer ev.reply (event_writes (view (with_moving g l moving body)) l (receive.view s.next).body s.event) in
        (ap reply_length (said_is h) ∙ w.0, w.1)

    pub answered_fits : at + reply_length z.answer ≤ n
    answered_fits = omega (arith, written.0, written.1, h.long, from_length area at, area_length)

    pub answered_taken : taken_in z.answer ≤ places
    answered_taken =
        let kept = rw h.reaches.rest_is at whole in
        rw (said_is h) (event_taken (with_moving g l moving body) l (scan.joined moving.control body) (from bytes i) kept)

    counts_more : with z.answer counts ≡ counted (done g l bytes n (i + y.used)).answers
    counts_more =
        let xs = (done g l bytes n i).answers in
        ap (with z.answer) (u.counts_are ∙ sym (counted_quiet xs (y.used - 1)))
        ∙ sym (ap counted answers_more ∙ counted_more (xs ++ quiet) z.answer)

    area_more : take at area ++ (left ++ drop (length area - at) (drop at area)) ≡ overlay (done g l bytes n (i + y.used)).replies before
    area_more =
        let none = drop_of_length-le (drop at area) {i = length area - at} (omega (arith, length-drop at area)) in
        let laid = laid_is h ∙ ap (overlay ev.reply) (from_drop area at) in
        (λ k. take at area ++ (laid k ++ none k)) ∙ ap (λ (r : List ℕ). take at area ++ r) (append-nil (overlay ev.reply (drop at area)))
        ∙ (λ k. take (u.at_is k) (u.area_is k) ++ overlay ev.reply (drop (u.at_is k) (u.area_is k)))
        ∙ overlay_behind (done g l bytes n i).replies ev.reply before ∙ ap (λ (r : List ℕ). overlay r before) (sym replies_more)

    pub along_answered : Along g l bytes before (take at area ++ (left ++ drop (length area - at) (drop at area))) rest z.moving (with z.answer counts) (at + reply_length z.answer) (i + y.used)
    along_answered =
        let d = done g l bytes n i in
        record {
          within = reached_within h.reaches;
          used =
              ap length answers_more ∙ length-append (d.answers ++ quiet) (z.answer ∷ [])
              ∙ omega (arith, length-append d.answers quiet, length-replicate (y.used - 1) says.Nothing, u.used, reached_some h.reaches);
          gateway_is = ap (λ (f : Feed). f.gateway) fed_more;
          at_is = omega (arith, ap length replies_more, length-append d.replies ev.reply, u.at_is, written.0);
          area_is = area_more;
          fits = answered_fits;
          counts_are = counts_more;
          bodies =
              subst (All Taken) (sym answers_more)
              (all_append Taken (d.answers ++ quiet) (z.answer ∷ []) (all_append Taken d.answers quiet u.bodies (quiet_none (y.used - 1))) (answered_taken, tt));
        }

-- ---- the receiver as it was handed

-- one byte at least, with room: a length over the places makes no difference
pub start_cut : (g : Gateway) (l : Line) (bytes : List ℕ) (n : ℕ) → length (body_of g l) ≡ places → room ≤ n → 0 < length bytes → feed g l n bytes ≡ feed (start g l) l n bytes
start_cut g l [] n whole long some = absurd (omega arith)
start_cut g l (b ∷ bs) n whole long some = sym (feed_cut l g n b bs whole long)

-- nor does it make one to the state that the gateway holds
pub start_view : (g : Gateway) (l : Line) → length (body_of g l) ≡ places → view (start g l) ≡ view g
start_view g Controller whole =
    let r = g.receivers.controller in
    let body = counted_cut r.len r.bytes places whole in
    λ i. with_body (record { inside = r.inside; escaped = r.escaped; body = body i })
  where
    with_body : receive.State → State
    with_body s = record { receivers = record { controller = s; panel = (view g).receivers.panel }; table = (view g).table; queue = (view g).queue; properties = (view g).properties }
start_view g Panel whole =
    let r = g.receivers.panel in
    let body = counted_cut r.len r.bytes places whole in
    λ i. with_body (record { inside = r.inside; escaped = r.escaped; body = body i })
  where
    with_body : receive.State → State
    with_body s = record { receivers = record { controller = (view g).receivers.controller; panel = s }; table = (view g).table; queue = (view g).queue; properties = (view g).properties }
