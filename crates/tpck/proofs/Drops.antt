-- Drops: each gives the length of the body that it found, which the line held since the SOF of its packet; and their numbers are those
-- that `is_drop` names and no others. Assumes nothing.
use Rattle.std.proofs.Common.{◌≡◌, ℕ, zero, suc, ◌≤◌, Bool, true, List, [], ◌∷◌, length, refl, subst, arith, length-append, le-leb}
use mathlib.Core.Bool.{false≢true}
use borrow.Author.Tests.{lt-leb}
use Rattle.lists.proofs.Clash.{clash}
use Rattle.tpck.specs.declared.event.Drop.{Drop}
use Rattle.tpck.specs.declared.event.Drop.TheVariants.{Restarted, Early, TooLong, Checksum}
use Rattle.tpck.specs.declared.event.Event.{Event}
use Rattle.tpck.specs.declared.event.Event.TheVariants.{Nothing, Dropped, Frame}
use Rattle.tpck.specs.declared.receiver.Receiver.{Receiver}
use Rattle.tpck.specs.Event.{drop_number, is_drop, told, drop_with}
use Rattle.tpck.specs.Receive.{State, Step, step, view, receive, fresh, told_by}
use Rattle.tpck.specs.Line.{receiver_after}
use Rattle.tpck.specs.Sent.{Since}
use Rattle.tpck.specs.Explained.{Counted, WasTaken}
use Rattle.tpck.proofs.Ways.{Way, pends, opens, restarts, idles, ends_early, ends_wrong, completes, skips, adds, overflows, step_way}
use Rattle.tpck.proofs.Theorems.{line_explained}

-- ---- how many body bytes were taken

-- a drop that gives n at a receiver: a packet was open there, and its body has n bytes
pub record DropOf (s : State) (n : ℕ) : Type 0 where
  pub inside : s.inside ≡ true
  pub count : n ≡ length s.body

pub step_drops : (s : State) (b : ℕ) (d : Drop) (n : ℕ) → (step s b).event ≡ Dropped d n → DropOf s n
step_drops s b d n e = go (step_way s b) e
  where
    go : {t : Step} → Way s b t → t.event ≡ Dropped d n → DropOf s n
    go (pends u) h = clash cc
    go (opens i u) h = clash cc
    go (restarts i u) h = record { inside = i; count = cc }
    go (idles i u) h = clash cc
    go (ends_early i u f) h = record { inside = i; count = cc }
    go (ends_wrong i u f m) h = record { inside = i; count = cc }
    go (completes i u f m) h = clash cc
    go (skips i p) h = clash cc
    go (adds i p f) h = clash cc
    go (overflows i p f) h = record { inside = i; count = cc }

-- a byte adds one at most
pub step_adds : (s : State) (b : ℕ) → length (step s b).next.body ≤ suc (length s.body)
step_adds s b = go (step_way s b)
  where
    go : {t : Step} → Way s b t → length t.next.body ≤ suc (length s.body)
    go (pends u) = omega arith
    go (opens i u) = omega arith
    go (restarts i u) = omega arith
    go (idles i u) = omega arith
    go (ends_early i u f) = omega arith
    go (ends_wrong i u f m) = omega arith
    go (completes i u f m) = omega arith
    go (skips i p) = omega arith
    go (adds i p f) = omega (arith, length-append s.body (b ∷ []))
    go (overflows i p f) = omega arith

receiver_drops : (r : Receiver) (b number taken : ℕ) → told_by (receive r b) ≡ drop_with number taken → DropOf (view r) taken
receiver_drops r b number taken e = go (step (view r) b).event refl e
  where
    go : (v : Event) → (step (view r) b).event ≡ v → told v (view (receive r b).next).body ≡ drop_with number taken → DropOf (view r) taken
    go Nothing h f = clash cc
    go (Dropped d n) h f = let same : n ≡ taken = cc in subst (DropOf (view r)) same (step_drops (view r) b d n h)
    go (Frame ptype size) h f = clash cc

-- Every drop, of every receiver value, gives the length of the body that was handed over.
pub drop_counted : (r : Receiver) (b : ℕ) → Counted r b
drop_counted r b number taken e = (receiver_drops r b number taken e).count

-- After any bytes whatever, a drop counts the body bytes that the line held since the SOF of its packet.
pub counted_was_taken : (line : List ℕ) (b : ℕ) → WasTaken line b
counted_was_taken line b number taken e =
    let r = receiver_after fresh line in
    let d = receiver_drops r b number taken e in
    let x = line_explained line b in
    ((view r).body, subst (λ (p : Bool). Since line p (view r).body) x.escape (x.body d.inside), d.count)

-- ---- which numbers are drops

pub drop_numbered : (d : Drop) → is_drop (drop_number d) ≡ true
drop_numbered Restarted = refl
drop_numbered Early = refl
drop_numbered TooLong = refl
drop_numbered Checksum = refl

pub number_drops : (n : ℕ) → is_drop n ≡ true → (d : Drop) × (drop_number d ≡ n)
number_drops zero e = absurd (false≢true e)
number_drops (suc zero) e = absurd (false≢true e)
number_drops (suc (suc zero)) e = absurd (false≢true e)
number_drops (suc (suc (suc zero))) e = (Restarted, refl)
number_drops (suc (suc (suc (suc zero)))) e = (Early, refl)
number_drops (suc (suc (suc (suc (suc zero))))) e = (TooLong, refl)
number_drops (suc (suc (suc (suc (suc (suc zero)))))) e = (Checksum, refl)
number_drops (suc (suc (suc (suc (suc (suc (suc n))))))) e =
    let m = suc (suc (suc (suc (suc (suc (suc n)))))) in
    absurd (false≢true (rw (le-leb 3 m (omega arith), lt-leb m 6 (omega arith)) at e))
