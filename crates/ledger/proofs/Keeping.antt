-- The ledger and the queue keep step: at queueing, at a try of the head, at a tick. Assumes nothing.
use mathlib.Core.Path.{◌≡◌, refl, sym, ap, ◌∙◌}
use mathlib.Core.Bool.{Bool, true, false, cond, not, true≢false}
use mathlib.Core.List.{List, [], ◌∷◌, ◌++◌, map, append_assoc}
use mathlib.Core.List.Permᴰ
use Prim.Native.Nat.{ℕ, suc, ◌<◌, ◌≤◌}
use native.Mathlib.Omega.{arith}
use lib.ListN.{length, length-append}
use borrow.Author.Tests.{ltb-false}
use Rattle.lists.specs.Filter.{filter, any, All}
use Rattle.lists.specs.Permutation.{Permutation}
use Rattle.lists.proofs.Filters.{or_left, or_right, filter_not_any, map_not_any, map_after, map-append, all_filter, all_append, all_map}
use Rattle.lists.proofs.Permutations.{perm_of_eq, perm_length, perm_any, perm_all, perm_filter, perm_split, perm_last, perm_append_comm, perm_moved, perm-map}
use Rattle.devices.specs.declared.field.Field.{Field}
use Rattle.devices.specs.Field.{Formed, same_field}
use Rattle.devices.proofs.Fields.{same_eq}
use Rattle.updates.specs.declared.line.Line.{Line}
use Rattle.updates.specs.declared.update.Update.{Update}
use Rattle.updates.specs.Update.{older, young, line_in}
use Rattle.updates.specs.Queue.{waits, from_line, lacks_room}
use Rattle.updates.specs.Tick.{keeping, leaving}
use Rattle.updates.proofs.Room.{room_slot}
use Rattle.updates.proofs.Places.{line_of_number, Placed, push_placed, pop_placed, rotate_placed, tick_placed}
use Rattle.updates.proofs.Ticks.{keeping_length}
use Rattle.ledger.specs.Call.{Heard}
use Rattle.ledger.specs.Call.{named_by}
use Rattle.ledger.specs.Ledger.{Wait, Ending, Ended, Ledger, Ask, is_of, is_on, raised, retried, aged, stays, goes, ended_by, with_wait, wait_for, after_failure, tried, feed_tick}
use Rattle.ledger.specs.Ledger.Ending.{Confirmed, TimedOut}
use Rattle.ledger.specs.Demand3.{of_wait, of_update, Distinct, InTime, EndedWell, below, named_as}
use Rattle.ledger.proofs.Matching.{Matched, matched_field, matched_line, Matching, matching_length, matching_agrees, matching_in_time, matching_waits, matching_from, matching_append, matching_raised, matching_tick, matching_goes}
use Rattle.ledger.proofs.Matching.{Different, different_append, different_tick, different_distinct}
use Rattle.lists.proofs.Matches.Matching.{end, next}
use Rattle.ledger.proofs.Outcomes.{update_of}

abbrev serials : List Wait → List ℕ
serials l = map (λ s. s.serial) l

abbrev gone : List Ended → List ℕ
gone l = map (λ e. e.wait.serial) l

-- an update of a field of document 01
abbrev IsFormed : Update → Type 0
IsFormed u = Formed u.field

-- what holds between a queue and a ledger with these waits, these ended, and this many queued
pub record Keeps (q : List Update) (waiting : List Wait) (ended : List Ended) (queued : ℕ) : Type 0 where
  -- the waits in the order of the queue
  pub in_order : List Wait
  pub same : Permutation waiting in_order
  pub matched : Matching 0 in_order q
  pub different : Different q
  pub formed : All IsFormed q
  pub few : length q ≤ 16
  pub placed : Placed q
  pub accounted : Permutation (serials waiting ++ gone ended) (below queued)
  pub ended_well : All EndedWell ended

abbrev pub InStep : List Update → Ledger → Type 0
InStep q b = Keeps q b.waiting b.ended b.queued

module _ {q : List Update} {w : List Wait} {e : List Ended} {n : ℕ} (k : Keeps q w e n) where
  pub keeps_waits : (f : Field) → any (is_of f) w ≡ waits q f
  keeps_waits f = perm_any (is_of f) k.same ∙ matching_waits f k.matched

  pub keeps_length : length w ≡ length q
  keeps_length = perm_length k.same ∙ matching_length k.matched

  pub keeps_from : (l : Line) → length (filter (is_on l) w) ≡ length (from_line l q)
  keeps_from l = perm_length (perm_filter (is_on l) k.same) ∙ matching_from l k.matched

  pub keeps_in_time : All InTime w
  keeps_in_time = perm_all InTime (Permᴰ.symm k.same) (matching_in_time k.matched)

  pub keeps_held : Permutation (map of_wait w) (map of_update q)
  keeps_held = Permᴰ.trans (perm-map of_wait k.same) (perm_of_eq (matching_agrees k.matched))

  pub keeps_once : Distinct (map (λ u. u.field) q)
  keeps_once = different_distinct q k.different

  pub keeps_formed : All Formed (map (λ u. u.field) q)
  keeps_formed = all_map IsFormed Formed (λ u. u.field) (λ u m. m) q k.formed

  pub keeps_goes : Permutation (map named_as (filter goes (map aged w))) (map named_by (leaving q))
  keeps_goes = Permᴰ.trans (perm-map named_as (perm_filter goes (perm-map aged k.same))) (perm_of_eq (matching_goes k.matched))

none_placed : Placed []
unfolding from_line
none_placed l = omega arith

pub keeps_empty : Keeps [] [] [] 0
keeps_empty =
    record { in_order = []; same = Permᴰ.nil; matched = end; different = tt; formed = tt; few = omega arith; placed = none_placed; accounted = Permᴰ.nil; ended_well = tt }

-- ---- queued

perm_after : (l m : List ℕ) (n : ℕ) → Permutation ((l ++ (n ∷ [])) ++ m) ((l ++ m) ++ (n ∷ []))
perm_after l m n = rw append_assoc (Permᴰ.trans (Permᴰ.middle n l m) (perm_last n (l ++ m)))

pub keeps_queued : (q : List Update) (b : Ledger) (a : Ask) → InStep q b → Formed a.field → waits q a.field ≡ false
    → lacks_room q (line_in (update_of a)) ≡ false → InStep (q ++ (update_of a ∷ [])) (with_wait b (wait_for b a))
keeps_queued q b a k m w h =
    let s : Wait = wait_for b a in
    let u : Update = update_of a in
    let slot = room_slot q (line_in u) h in
    let agrees : of_wait s ≡ of_update u = λ i. record { line = sym (line_of_number a.line) i; field = a.field; value = a.value; ticks = 0 } in
    record {
      in_order = k.in_order ++ (s ∷ []);
      same = Permᴰ.append_right (s ∷ []) k.same;
      matched = matching_append s u agrees (omega arith) (omega (arith, slot)) k.matched;
      different = different_append q u k.different w;
      formed = all_append IsFormed q (u ∷ []) k.formed (m, tt);
      few = omega (arith, length-append q (u ∷ []), slot);
      placed = push_placed q u h k.placed;
      accounted =
          rw (map-append (λ (x : Wait). x.serial) b.waiting (s ∷ []))
          (Permᴰ.trans (perm_after (serials b.waiting) (gone b.ended) b.queued) (Permᴰ.append_right (b.queued ∷ []) k.accounted));
      ended_well = k.ended_well;
    }

-- ---- a try of the head

-- the head's wait s, and the waits r after it
record Head (f : Field) (s : Wait) (r : List Wait) : Type 0 where
  is_head : is_of f s ≡ true
  no_other : any (is_of f) r ≡ false

head_of : (f : Field) {s : Wait} {u : Update} {r : List Wait} {q : List Update} → same_field f u.field ≡ true → waits q u.field ≡ false
    → Matched 0 s u → Matching 1 r q → Head f s r
head_of f {u} e w m l =
    record { is_head = rw (matched_field m) e; no_other = matching_waits f l ∙ (rw (same_eq f u.field e) w) }

-- the head's wait names the head's line, and no other wait has its field
module _ (f : Field) (u : Update) (q : List Update) (e : same_field f u.field ≡ true) where
  abbrev Owned : Wait → Type 0
  Owned s = is_of f s ≡ true → s.line ≡ line_in u

  none_owned : (l : List Wait) → any (is_of f) l ≡ false → All Owned l
  none_owned [] h = tt
  none_owned (s ∷ l) h =
      (λ t. absurd (true≢false (sym t ∙ or_left (is_of f s) (any (is_of f) l) h)), none_owned l (or_right (is_of f s) (any (is_of f) l) h))

  matched_owned : (l : List Wait) → waits q u.field ≡ false → Matching 0 l (u ∷ q) → All Owned l
  matched_owned l w (next {a = s} {l = r} m t) = (λ h. matched_line m, none_owned r (head_of f e w m t).no_other)

  pub keeps_own : (b : Ledger) → InStep (u ∷ q) b → All Owned b.waiting
  keeps_own b k = perm_all Owned (Permᴰ.symm k.same) (matched_owned k.in_order k.different.0 k.matched)

-- the waits that a try leaves, in the order of the queue: confirmed, and failed
module _ (f : Field) (s : Wait) (r : List Wait) (h : Head f s r) where
  head_out : map raised (filter (λ x. not (is_of f x)) (s ∷ r)) ≡ map raised r
  head_out = rw h.is_head (ap (map raised) (filter_not_any (is_of f) r h.no_other))

  head_back : map (after_failure f) (s ∷ r) ≡ retried s ∷ map raised r
  head_back = rw h.is_head (ap (λ (l : List Wait). retried s ∷ l) (map_not_any (is_of f) retried raised r h.no_other))

-- of the waits x and y, x wait on, and y end by w
perm_ended : (x y : List Wait) (e : List Ended) (w : Ending) {n : List ℕ} → Permutation (serials (x ++ y) ++ gone e) n
    → Permutation (serials x ++ gone (e ++ map (ended_by w) y)) n
perm_ended x y e w p =
    Permᴰ.trans
    (perm_of_eq (ap (λ (l : List ℕ). serials x ++ l) (map-append (λ (d : Ended). d.wait.serial) e (map (ended_by w) y) ∙ ap (λ (l : List ℕ). gone e ++ l) (gone_of y))))
    (Permᴰ.trans (perm_moved (serials x) (serials y) (gone e) (perm_of_eq (sym (map-append (λ (s : Wait). s.serial) x y)))) p)
  where
    gone_of : (l : List Wait) → gone (map (ended_by w) l) ≡ serials l
    gone_of [] = refl
    gone_of (s ∷ l) = ap (λ (r : List ℕ). s.serial ∷ r) (gone_of l)

confirmed_well : (s : Wait) → InTime s → EndedWell (ended_by Confirmed s)
confirmed_well s h = record { ticks = h.ticks; turns = h.turns }

same_serial : (f : Field) (s : Wait) → (after_failure f s).serial ≡ s.serial
same_serial f s = go (is_of f s)
  where
    go : (c : Bool) → (cond c (retried s) (raised s)).serial ≡ s.serial
    go true = refl
    go false = refl

module _ (f : Field) (v : Heard) (u : Update) (q : List Update) (b : Ledger) (e : same_field f u.field ≡ true) (k : InStep (u ∷ q) b) where
  confirmed_matching : (l : List Wait) → Permutation b.waiting l → Matching 0 l (u ∷ q) → InStep q (tried b f v true)
  unfolding tried
  confirmed_matching l p (next {a = s} {l = r} m t) =
      let h : Head f s r = head_of f e k.different.0 m t in
      let out = filter (is_of f) b.waiting in
      let on = filter (λ x. not (is_of f x)) b.waiting in
      record {
        in_order = map raised r;
        same = Permᴰ.trans (perm-map raised (perm_filter (λ x. not (is_of f x)) p)) (perm_of_eq (head_out f s r h));
        matched = matching_raised t;
        different = k.different.1;
        formed = k.formed.1;
        few = omega (arith, k.few);
        placed = pop_placed u q k.placed;
        accounted =
            rw (map_after (λ (x : Wait). x.serial) raised (λ x. refl) on)
            (perm_ended on out b.ended Confirmed
            (Permᴰ.trans
            (Permᴰ.append_right (gone b.ended)
            (perm-map (λ (x : Wait). x.serial) (Permᴰ.trans (perm_append_comm on out) (perm_split (is_of f) b.waiting))))
            k.accounted));
        ended_well =
            all_append EndedWell b.ended (map (ended_by Confirmed) out) k.ended_well
            (all_map InTime EndedWell (ended_by Confirmed) confirmed_well out (all_filter InTime (is_of f) b.waiting (keeps_in_time k)));
      }

  pub keeps_confirmed : InStep q (tried b f v true)
  keeps_confirmed = confirmed_matching k.in_order k.same k.matched

  failed_matching : (l : List Wait) → Permutation b.waiting l → Matching 0 l (u ∷ q) → InStep (q ++ (u ∷ [])) (tried b f v false)
  unfolding tried
  failed_matching l p (next {a = s} {l = r} m t) =
      let h : Head f s r = head_of f e k.different.0 m t in
      let n : suc (length q) ≤ 16 = k.few in
      record {
        in_order = map raised r ++ (retried s ∷ []);
        same =
            Permᴰ.trans (perm-map (after_failure f) p)
            (Permᴰ.trans (perm_of_eq (head_back f s r h)) (perm_last (retried s) (map raised r)));
        matched = matching_append (retried s) u m.agrees m.young (omega arith) (matching_raised t);
        different = different_append q u k.different.1 k.different.0;
        formed = all_append IsFormed q (u ∷ []) k.formed.1 (k.formed.0, tt);
        few = omega (arith, length-append q (u ∷ []));
        placed = rotate_placed (u ∷ q) k.placed;
        accounted = rw (map_after (λ (x : Wait). x.serial) (after_failure f) (same_serial f) b.waiting) k.accounted;
        ended_well = k.ended_well;
      }

  pub keeps_failed : InStep (q ++ (u ∷ [])) (tried b f v false)
  keeps_failed = failed_matching k.in_order k.same k.matched

-- ---- a tick

-- after the tick a wait's ticks are 120 at most; those that go are at 120
record Grown (s : Wait) : Type 0 where
  ticks : s.ticks ≤ 120
  turns : s.turns < 16

grown : (s : Wait) → InTime s → Grown (aged s)
grown s h = record { ticks = h.ticks; turns = h.turns }

timed_out_well : (l : List Wait) → All Grown l → All EndedWell (map (ended_by TimedOut) (filter goes l))
timed_out_well [] h = tt
timed_out_well (s ∷ l) h = go (stays s) refl (timed_out_well l h.1)
  where
    go : (c : Bool) → stays s ≡ c → All EndedWell (map (ended_by TimedOut) (filter goes l))
        → All EndedWell (map (ended_by TimedOut) (cond (not c) (s ∷ filter goes l) (filter goes l)))
    go true e k = k
    go false e k = (record { ticks = omega (arith, h.0.ticks, ltb-false s.ticks 120 e); turns = h.0.turns }, k)

pub keeps_tick : (q : List Update) (b : Ledger) → InStep q b → InStep (keeping q) (feed_tick b)
unfolding feed_tick keeping
keeps_tick q b k =
    let now = map aged b.waiting in
    record {
      in_order = filter stays (map aged k.in_order);
      same = perm_filter stays (perm-map aged k.same);
      matched = matching_tick (omega arith) k.matched;
      different = different_tick q k.different;
      formed = all_filter IsFormed young (map older q) (all_map IsFormed IsFormed older (λ u m. m) q k.formed);
      few = omega (arith, keeping_length q, k.few);
      placed = tick_placed q k.placed;
      accounted =
          perm_ended (filter stays now) (filter goes now) b.ended TimedOut
          (Permᴰ.trans
          (Permᴰ.append_right (gone b.ended)
          (Permᴰ.trans (perm-map (λ (x : Wait). x.serial) (perm_split stays now)) (perm_of_eq (map_after (λ (x : Wait). x.serial) aged (λ x. refl) b.waiting))))
          k.accounted);
      ended_well =
          all_append EndedWell b.ended (map (ended_by TimedOut) (filter goes now)) k.ended_well
          (timed_out_well now (all_map InTime Grown aged grown b.waiting (keeps_in_time k)));
    }
