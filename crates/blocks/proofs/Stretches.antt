-- Bytes up to the next event, fed one by one: all but the last do nothing, and the last is answered as its event. Assumes nothing.
use Prim.Native.Nat.{ℕ, suc, ◌+◌, ◌-◌, ◌≤◌, ◌<◌}
use mathlib.Core.Path.{◌≡◌, refl, sym, ap, ◌∙◌, subst}
use mathlib.Core.Bool.{Bool, true, false}
use mathlib.Core.List.{List, [], ◌∷◌, ◌++◌, append-nil}
use native.Mathlib.Omega.{arith}
use lib.ListN.{length, take, drop, replicate, length-append, length-replicate, take-append-drop}
use lib.Seq.{length-take-le}
use Rattle.tpck.specs.declared.event.Event.{Event}
use Rattle.tpck.specs.declared.event.Event.TheVariants as event
use Rattle.tpck.specs.declared.receiver.Receiver.{Receiver}
use Rattle.tpck.specs.declared.receiver.Received.{Received}
use Rattle.tpck.specs.Receive as receive
use Rattle.tpck.specs.Frame.{places}
use Rattle.tpck.specs.Scan.{happens, Scan, scan}
use Rattle.tpck.proofs.Scans.{scan_at, scan_after, scan_ended, scan_stops, scan_goes, scan_used, scan_moves, cut, scan_cut}
use Rattle.lists.proofs.Clash.{clash}
use Rattle.updates.specs.declared.line.Line.{Line}
use Rattle.updates.specs.declared.line.Line.TheVariants.{Controller, Panel}
use Rattle.gateway.specs.declared.lines.Receivers.{Receivers}
use Rattle.gateway.specs.declared.gateway.Gateway.{Gateway}
use Rattle.gateway.specs.declared.answers.ByteAnswer.{ByteAnswer}
use Rattle.gateway.specs.declared.answers.ByteAnswer.TheVariants as says
use Rattle.gateway.specs.State.{Result}
use Rattle.gateway.specs.Reply.{room}
use Rattle.gateway.specs.Byte.{byte_event, byte}
use Rattle.gateway.specs.View.{receiver_on, receivers_with, view}
use Rattle.gateway.specs.Results.{fed}
use Rattle.gateway.proofs.Bytes.{event_moved, byte_by_event, byte_event_reply}
use Rattle.blocks.specs.Feed.{Feed, feed}
use Rattle.blocks.proofs.Feeds.{joined, feed_first, feed_append}

-- ---- the receivers of a gateway

pub with_with : (r : Receivers) (l : Line) (x y : Receiver) → receivers_with (receivers_with r l x) l y ≡ receivers_with r l y
with_with r Controller x y = refl
with_with r Panel x y = refl

pub on_with : (r : Receivers) (l : Line) (x : Receiver) → receiver_on (receivers_with r l x) l ≡ x
on_with r Controller x = refl
on_with r Panel x = refl

-- ---- a stretch of bytes

module _ (l : Line) where
  -- what the event of a scan comes to
  abbrev pub event_of : Gateway → Scan → Result ByteAnswer
  event_of g s = byte_event (view g) l (receive.view s.next).body s.event

  -- the gateway after it
  abbrev pub after_scan : Gateway → Scan → Gateway
  after_scan g s =
      let h = (fed g (event_of g s)).gateway in
      record { receivers = receivers_with g.receivers l s.next; table = h.table; queue = h.queue; properties = h.properties }

  -- the bytes before the last did nothing
  abbrev pub stretch : Gateway → Scan → Feed
  stretch g s = record { gateway = after_scan g s; answers = replicate (s.used - 1) says.Nothing ++ ((event_of g s).answer ∷ []); replies = (event_of g s).reply }

  -- ---- one byte

  one_byte : (g : Gateway) (n b : ℕ) → room ≤ n → feed g l n (b ∷ []) ≡ stretch g (scan_at (receive.receive (receiver_on g.receivers l) b) 1)
  unfolding feed
  one_byte g n b long =
      let e = byte_by_event g l b n long in
      let r = append-nil (byte (view g) l b n).reply ∙ byte_event_reply g l b n long in
      feed_first l g n b [] long ∙ (λ i. record { gateway = (e i).gateway; answers = (e i).answer ∷ []; replies = r i })

  -- ---- a byte that does nothing

  -- the gateway with another receiver on the line
  abbrev pub moved : Gateway → Receiver → Gateway
  moved g r = record { receivers = receivers_with g.receivers l r; table = g.table; queue = g.queue; properties = g.properties }

  -- what the bytes up to an event come to does not depend on the line's receiver before
  module _ (g : Gateway) (r : Receiver) where
    still : (s : Scan) → event_of (moved g r) s ≡ event_of g s
    still s = event_moved (view g) (view (moved g r)).receivers l (receive.view s.next).body s.event

    pub stretch_moved : (s : Scan) → stretch (moved g r) s ≡ stretch g s
    stretch_moved s =
        let e = still s in
        let h = ap (λ (y : Result ByteAnswer). (fed g y).gateway) e in
        λ i.
        record {
          gateway = record { receivers = with_with g.receivers l r s.next i; table = (h i).table; queue = (h i).queue; properties = (h i).properties };
          answers = replicate (s.used - 1) says.Nothing ++ ((e i).answer ∷ []);
          replies = (e i).reply;
        }

  silent : (v : Event) → happens v ≡ false → v ≡ event.Nothing
  silent event.Nothing e = refl
  silent (event.Dropped d n) e = clash cc
  silent (event.Frame ptype size) e = clash cc

  module _ (g : Gateway) (n b : ℕ) (long : room ≤ n) (quiet : (receive.receive (receiver_on g.receivers l) b).event ≡ event.Nothing) where
    abbrev x : Received
    x = receive.receive (receiver_on g.receivers l) b

    nothing_fed : fed g (byte (view g) l b n) ≡ record { gateway = moved g x.next; answer = says.Nothing }
    unfolding byte_event
    nothing_fed = byte_by_event g l b n long ∙ rw quiet

    nothing_replied : (byte (view g) l b n).reply ≡ []
    unfolding byte_event
    nothing_replied = byte_event_reply g l b n long ∙ rw quiet

    quiet_byte : (bs : List ℕ) → let rest = feed (moved g x.next) l n bs in
        feed g l n (b ∷ bs) ≡ record { gateway = rest.gateway; answers = says.Nothing ∷ rest.answers; replies = rest.replies }
    quiet_byte bs =
        let left : n - 0 ≡ n = omega arith in
        let m : n - length (byte (view g) l b n).reply ≡ n = ap (λ (k : List ℕ). n - length k) nothing_replied ∙ left in
        let rest : feed (fed g (byte (view g) l b n)).gateway l (n - length (byte (view g) l b n).reply) bs ≡ feed (moved g x.next) l n bs = λ i. feed (nothing_fed i).gateway l (m i) bs in
        feed_first l g n b bs long ∙ (λ i. record { gateway = (rest i).gateway; answers = (nothing_fed i).answer ∷ (rest i).answers; replies = nothing_replied i ++ (rest i).replies })

    -- a byte that does nothing in front of a stretch
    quiet_stretch : (s : Scan) → 0 < s.used → let rest = stretch (moved g x.next) s in
        ◌≡◌ {A = Feed} (record { gateway = rest.gateway; answers = says.Nothing ∷ rest.answers; replies = rest.replies }) (stretch g (scan_after 1 s))
    quiet_stretch s some =
        let k : 1 + s.used - 1 ≡ suc (s.used - 1) = omega arith in
        let e = stretch_moved g x.next s in
        rw k (λ i. record { gateway = (e i).gateway; answers = says.Nothing ∷ (e i).answers; replies = (e i).replies })

  -- ---- the bytes up to the next event

  abbrev Stretched : Gateway → (n b : ℕ) → List ℕ → Scan → Type 0
  Stretched g n b bs s = feed g l n (take s.used (b ∷ bs)) ≡ stretch g s

  stops : (g : Gateway) (n b : ℕ) (bs : List ℕ) → room ≤ n → let x = receive.receive (receiver_on g.receivers l) b in
      happens x.event ≡ true → Stretched g n b bs (scan (receiver_on g.receivers l) (b ∷ bs))
  stops g n b bs long e =
      let r = receiver_on g.receivers l in
      subst (Stretched g n b bs) (sym (scan_stops r b bs refl e)) (one_byte g n b long)

  module _ (g : Gateway) (n b : ℕ) (long : room ≤ n) (e : happens (receive.receive (receiver_on g.receivers l) b).event ≡ false) where
    abbrev r : Receiver
    r = receiver_on g.receivers l

    abbrev y : Received
    y = receive.receive r b

    quiet : y.event ≡ event.Nothing
    quiet = silent y.event e

    -- the last byte does nothing either
    ends_quiet : Stretched g n b [] (scan r (b ∷ []))
    ends_quiet =
        let same : scan_at y 1 ≡ scan r (b ∷ []) = (λ i. record { next = y.next; event = quiet i; used = 1 }) ∙ sym (scan_goes r b [] refl e ∙ scan_ended y.next 1) in
        subst (Stretched g n b []) same (one_byte g n b long)

    -- more bytes after it
    goes_on : (c : ℕ) (bs : List ℕ) → Stretched (moved g y.next) n c bs (scan y.next (c ∷ bs)) → Stretched g n b (c ∷ bs) (scan r (b ∷ c ∷ bs))
    goes_on c bs rest =
        let s = scan y.next (c ∷ bs) in
        let k : 1 + s.used ≡ suc s.used = omega arith in
        let used = ap (λ (m : ℕ). feed g l n (take m (b ∷ c ∷ bs))) k in
        subst (Stretched g n b (c ∷ bs)) (sym (scan_goes r b (c ∷ bs) refl e))
        (used ∙ quiet_byte g n b long quiet (take s.used (c ∷ bs))
        ∙ ap (λ (z : Feed). record { gateway = z.gateway; answers = says.Nothing ∷ z.answers; replies = z.replies }) rest
        ∙ quiet_stretch g n b long quiet s (scan_moves y.next c bs))

  pub feed_scan : (g : Gateway) (n b : ℕ) (bs : List ℕ) → room ≤ n → Stretched g n b bs (scan (receiver_on g.receivers l) (b ∷ bs))
  feed_scan g n b [] long = go (happens (receive.receive (receiver_on g.receivers l) b).event) refl
    where
      go : (t : Bool) → happens (receive.receive (receiver_on g.receivers l) b).event ≡ t → Stretched g n b [] (scan (receiver_on g.receivers l) (b ∷ []))
      go true e = stops g n b [] long e
      go false e = ends_quiet g n b long e
  feed_scan g n b (c ∷ bs) long =
      let next = (receive.receive (receiver_on g.receivers l) b).next in
      let rest = subst (λ (r : Receiver). Stretched (moved g next) n c bs (scan r (c ∷ bs))) (on_with g.receivers l next) (feed_scan (moved g next) n c bs long) in
      go (happens (receive.receive (receiver_on g.receivers l) b).event) refl rest
    where
      go : (t : Bool) → happens (receive.receive (receiver_on g.receivers l) b).event ≡ t
          → let next = (receive.receive (receiver_on g.receivers l) b).next in
          Stretched (moved g next) n c bs (scan next (c ∷ bs)) → Stretched g n b (c ∷ bs) (scan (receiver_on g.receivers l) (b ∷ c ∷ bs))
      go true e rest = stops g n b (c ∷ bs) long e
      go false e rest = goes_on g n b long e c bs rest

  -- as many answers as bytes
  module _ (g : Gateway) (b : ℕ) (bs : List ℕ) where
    abbrev reached : Scan
    reached = scan (receiver_on g.receivers l) (b ∷ bs)

    pub stretch_length : length (stretch g reached).answers ≡ length (take reached.used (b ∷ bs))
    stretch_length =
        let quiet = replicate (reached.used - 1) says.Nothing in
        let some = scan_moves (receiver_on g.receivers l) b bs in
        let within = scan_used (receiver_on g.receivers l) (b ∷ bs) in
        omega (arith, some, length-append quiet ((event_of g reached).answer ∷ []), length-replicate (reached.used - 1) says.Nothing, length-take-le reached.used (b ∷ bs) within)

  -- ---- a receiver whose length is over its places

  -- the first byte cuts it
  module _ (g : Gateway) (n b : ℕ) (bs : List ℕ) (whole : length (receiver_on g.receivers l).bytes ≡ places) (long : room ≤ n) where
    abbrev own : Receiver
    own = receiver_on g.receivers l

    abbrev s : Scan
    s = scan own (b ∷ bs)

    abbrev front : List ℕ
    front = take s.used (b ∷ bs)

    front_cut : feed (moved g (cut own)) l n front ≡ feed g l n front
    front_cut =
        let h = moved g (cut own) in
        let same = ap (λ (r : Receiver). scan r (b ∷ bs)) (on_with g.receivers l (cut own)) ∙ scan_cut own whole b bs in
        subst (Stretched h n b bs) same (feed_scan h n b bs long) ∙ stretch_moved g (cut own) s ∙ sym (feed_scan g n b bs long)

    pub feed_cut : feed (moved g (cut own)) l n (b ∷ bs) ≡ feed g l n (b ∷ bs)
    feed_cut =
        let back = drop s.used (b ∷ bs) in
        let split = sym (take-append-drop s.used (b ∷ bs)) in
        let all = ap (λ (x : Feed). length x.answers) (feed_scan g n b bs long) ∙ stretch_length g b bs in
        let Cut-all = ap (λ (x : Feed). length x.answers) front_cut ∙ all in
        ap (feed (moved g (cut own)) l n) split ∙ feed_append l (moved g (cut own)) n front back Cut-all
        ∙ ap (λ (x : Feed). joined x (feed x.gateway l (n - length x.replies) back)) front_cut
        ∙ sym (feed_append l g n front back all) ∙ ap (feed g l n) (sym split)
