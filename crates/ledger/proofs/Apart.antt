-- The two lines are served apart (document 02, M-106): a line lacks room only where eight of its own updates wait, and bytes of the
-- other line leave its places and its receiver. Assumes nothing.
use mathlib.Core.Path.{◌≡◌, refl, sym, ap, ◌∙◌}
use mathlib.Core.Bool.{Bool, true, false, cond, true≢false, false≢true}
use mathlib.Core.List.{List, [], ◌∷◌}
use mathlib.Core.Option.{Option, none, some}
use Prim.Native.Nat.{ℕ, suc, ◌<◌, ◌≤◌}
use native.Mathlib.Omega.{arith}
use lib.Dec.{ltb, eqb}
use lib.ListN.{length}
use borrow.Author.Tests.{lt-ltb, ltb-false, not-true}
use Rattle.lists.specs.Filter.{any, every}
use Rattle.lists.proofs.Clash.{clash}
use Rattle.lists.proofs.Filters.{and_left, and_right, filter_skip}
use Rattle.tpck.specs.declared.event.Event.{Event}
use Rattle.tpck.specs.declared.event.Event.TheVariants as event
use Rattle.tpck.specs.Frame.{data_of}
use Rattle.tpck.specs.Receive as receive
use Rattle.devices.specs.declared.row.Row.{Row}
use Rattle.std.specs.Prelude.{Result, Ok, Err}
use Rattle.trpc.specs.declared.judging.FrameError.{FrameError}
use Rattle.trpc.specs.declared.judging.Judged.{Judged}
use Rattle.trpc.specs.declared.judging.Judged.TheVariants as judged
use Rattle.trpc.specs.Judging.{judge}
use Rattle.updates.specs.declared.line.Line.{Line}
use Rattle.updates.specs.declared.line.Line.TheVariants.{Controller, Panel}
use Rattle.updates.specs.Line.{same_line}
use Rattle.gateway.specs.Lines.{Receivers, receiver_of, with_receiver}
use Rattle.ledger.specs.Call.{Call, Answer, Made}
use Rattle.ledger.specs.Call.Call.{AddRow, Byte, Tick, Turn, Other}
use Rattle.ledger.specs.Call.Answer.{Refused, Dropped, Done, Queued, Replied, RepliedTo, TimedOut, HeadIs}
use Rattle.ledger.specs.Ledger.{most_of_line, room_needed, Ledger, Ask, is_of, is_on, is_queued, ask_in, ask_at, step_on, asked, with_receivers, new_wait, feed_byte, feed, ledger_after}
use Rattle.ledger.specs.Demand3.{waits_of, admission, admitted_in, admission_for}
use Rattle.ledger.specs.Demand3.Admission.{NotQueued, NoRoom, QueuedAs}
use Rattle.ledger.specs.Apart.{of_other, AllOfOther, LeftApart}

-- ---- an Update is of the line whose byte completes it

judged_line : (l : Line) (j : Result Judged FrameError) (u : Ask) → ask_in l j ≡ some u → u.line ≡ l
judged_line l (Err e) u h = clash cc
judged_line l (Ok (judged.Asks f v)) u h = let z : record { line = l; field = f; value = v } ≡ u = cc in sym (ap (λ (a : Ask). a.line) z)
judged_line l (Ok (judged.Answers e s)) u h = clash cc

event_line : (t : List Row) (l : Line) (body : List ℕ) (e : Event) (u : Ask) → ask_at t l body e ≡ some u → u.line ≡ l
event_line t l body event.Nothing u h = clash cc
event_line t l body (event.Dropped d n) u h = clash cc
event_line t l body (event.Frame ptype size) u h = judged_line l (judge ptype (data_of body) t) u h

asked_line : (b : Ledger) (l : Line) (x : ℕ) (u : Ask) → asked b l x ≡ some u → u.line ≡ l
asked_line b l x u h = event_line b.table l (step_on b l x).next.body (step_on b l x).event u h

-- ---- 16 only where eight of its own wait

-- an answer that says queued is that
queued_said : (a : Answer) (n : ℕ) → admission a ≡ QueuedAs n → a ≡ Queued n
queued_said (Refused k) n e = go (eqb k 16) e
  where
    go : (t : Bool) → cond t NoRoom NotQueued ≡ QueuedAs n → Refused k ≡ Queued n
    go true h = clash cc
    go false h = clash cc
queued_said (Dropped k t) n e = clash cc
queued_said Done n e = clash cc
queued_said (Queued k) n e = let z : k ≡ n = cc in ap Queued z
queued_said (Replied b) n e = clash cc
queued_said (RepliedTo l b) n e = clash cc
queued_said (TimedOut fs) n e = clash cc
queued_said (HeadIs l f v) n e = clash cc

module _ (b : Ledger) (l : Line) (x : ℕ) where
  no_room : (c : Bool) (o : Option Ask) → asked b l x ≡ o → NoRoom ≡ cond c NotQueued (admission_for b o) → most_of_line ≤ length (waits_of b l)
  no_room true o a e = clash cc
  no_room false none a e = clash cc
  no_room false (some u) a e = waits_already (any (is_of u.field) b.waiting) e
    where
      by_room : (t : Bool) → ltb (length (waits_of b u.line)) most_of_line ≡ t → NoRoom ≡ cond t (QueuedAs (suc (length b.waiting))) NoRoom → most_of_line ≤ length (waits_of b l)
      by_room true f h = clash cc
      by_room false f h = rw (asked_line b l x u a) at (ltb-false (length (waits_of b u.line)) most_of_line f)

      waits_already : (t : Bool) → NoRoom ≡ cond t NotQueued (admitted_in b u.line) → most_of_line ≤ length (waits_of b l)
      waits_already true h = clash cc
      waits_already false h = by_room (ltb (length (waits_of b u.line)) most_of_line) refl h

  module _ (c : Bool) (a : Answer) (due : admission a ≡ cond c NotQueued (admission_for b (asked b l x))) where
    pub own_places_lem : length (waits_of b l) ≤ most_of_line → a ≡ Refused 16 → length (waits_of b l) ≡ most_of_line
    own_places_lem few e = omega (arith, few, no_room c (asked b l x) refl (sym (ap admission e) ∙ due))

    pub room_served : c ≡ false → (u : Ask) → asked b l x ≡ some u → any (is_of u.field) b.waiting ≡ false → length (waits_of b l) < most_of_line
        → a ≡ Queued (suc (length b.waiting))
    room_served long u h w n =
        let own : ltb (length (waits_of b u.line)) most_of_line ≡ true = rw (asked_line b l x u h) (lt-ltb (length (waits_of b l)) most_of_line n) in
        queued_said a (suc (length b.waiting)) (due ∙ rw (long, h, w, own))

-- ---- bytes of the other line

-- the ledger with another beside it: this line has the same places and the same receiver in both
record Left (l : Line) (b c : Ledger) : Type 0 where
  places : waits_of c l ≡ waits_of b l
  receiver : receiver_of c.receivers l ≡ receiver_of b.receivers l

module _ (l m : Line) (other : same_line l m ≡ false) where
  receiver_left : (r : Receivers) (s : receive.State) → receiver_of (with_receiver r m s) l ≡ receiver_of r l
  receiver_left r s = go l m other
    where
      go : (k n : Line) → same_line k n ≡ false → receiver_of (with_receiver r n s) k ≡ receiver_of r k
      go Controller Controller e = absurd (true≢false e)
      go Controller Panel e = refl
      go Panel Controller e = refl
      go Panel Panel e = absurd (true≢false e)

  wait_left : (b : Ledger) (q : Bool) (o : Option Ask) → ((u : Ask) → o ≡ some u → u.line ≡ m) → waits_of (new_wait b q o) l ≡ waits_of b l
  unfolding new_wait
  wait_left b false o h = refl
  wait_left b true none h = refl
  wait_left b true (some u) h = filter_skip (is_on l) b.waiting _ (ap (same_line l) (h u refl) ∙ other)

  receivers_kept : (b : Ledger) (q : Bool) (o : Option Ask) → (new_wait b q o).receivers ≡ b.receivers
  unfolding new_wait
  receivers_kept b false o = refl
  receivers_kept b true none = refl
  receivers_kept b true (some u) = refl

  byte_left : (b : Ledger) (x : ℕ) (short : Bool) (a : Answer) → Left l b (feed_byte b m x short a)
  unfolding feed_byte
  byte_left b x true a = record { places = refl; receiver = refl }
  byte_left b x false a =
      let next = with_receivers b (with_receiver b.receivers m (step_on b m x).next) in
      record {
        places = wait_left next (is_queued a) (asked b m x) (asked_line b m x);
        receiver = ap (λ (r : Receivers). receiver_of r l) (receivers_kept next (is_queued a) (asked b m x)) ∙ receiver_left b.receivers (step_on b m x).next;
      }

fed_left : (b : Ledger) (l : Line) (c : Call) (a : Answer) → of_other l c ≡ true → Left l b (feed b c a)
unfolding feed
fed_left b l (AddRow r) a e = absurd (false≢true e)
fed_left b l (Byte m x lent) a e = byte_left l m (not-true (same_line l m) e) b x (ltb (length lent) room_needed) a
fed_left b l Tick a e = absurd (false≢true e)
fed_left b l (Turn f h lent) a e = absurd (false≢true e)
fed_left b l (Other o) a e = absurd (false≢true e)

pub left_apart : (b : Ledger) (l : Line) (ms : List Made) → AllOfOther l ms → LeftApart b l ms
unfolding ledger_after
left_apart b l [] e = record { places = refl; receiver = refl }
left_apart b l (m ∷ ms) e =
    let here = fed_left b l m.call m.answer (and_left (of_other l m.call) (every (λ x. of_other l x.call) ms) e) in
    let rest = left_apart (feed b m.call m.answer) l ms (and_right (of_other l m.call) (every (λ x. of_other l x.call) ms) e) in
    record { places = rest.places ∙ here.places; receiver = rest.receiver ∙ here.receiver }
