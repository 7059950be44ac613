-- The updates that wait in a queue's slots, as a list in an array with a count; then the head, and the head taken out or put at the
-- tail. Assumes nothing.
use mathlib.Core.Path.{◌≡◌, refl, ap, sym, ◌∙◌}
use mathlib.Core.List.{List, [], ◌∷◌, ◌++◌}
use Prim.Native.Nat.{ℕ, ◌+◌, ◌-◌, ◌≤◌, ◌<◌, min}
use native.Mathlib.Omega.{arith}
use lib.ListN.{length, take, drop, length-drop, length-take, length-append}
use Rattle.std.specs.Prelude.{Some}
use Rattle.std.specs.List.{copy_within}
use Rattle.std.proofs.lemmas.Slice.{between_is}
use Rattle.lists.specs.Overlay.{overlay}
use Rattle.lists.specs.Permutation.{Permutation}
use Rattle.lists.proofs.Counted.{counted_cut}
use Rattle.lists.proofs.Refills as refills
use Rattle.lists.proofs.Permutations.{perm_append_comm, perm_of_eq}
use Rattle.updates.specs.declared.update.Update.{Update}
use Rattle.updates.specs.declared.queue.Queue.{Queue}
use Rattle.updates.specs.Queue.{capacity, waiting, used_slots, refill, update_at, head_of, pop, rotate}

-- the laws of Refills hold of a queue
pub queue_counted : refills.Counted (λ (q : Queue). q.slots) (λ q. q.count) (λ l n. record { count = n; slots = l }) waiting refill
unfolding waiting refill
queue_counted = record { array_made = λ l n. refl; count_made = λ l n. refl; list_is = λ q. refl; refill_is = λ q l. refl }

-- what is put in is what waits
pub waiting_refill : (q : Queue) (l : List Update) → waiting (refill q l) ≡ l
waiting_refill q l = refills.refill_read queue_counted q l

pub refill_none : (q : Queue) → ◌≡◌ {A = Queue} (record { count = 0; slots = q.slots }) (refill q [])
refill_none q = refills.refill_none queue_counted q

-- the first slots, as many as updates wait
pub waiting_front : (q : Queue) (n : ℕ) → n ≡ length (waiting q) → take n q.slots ≡ waiting q
waiting_front q n e = ap (λ (k : ℕ). take k q.slots) e ∙ refills.list_front queue_counted q

-- how many updates wait, and the slots that they stand in
pub used_most : (q : Queue) → length q.slots ≡ capacity → used_slots q ≤ capacity
used_most q long = refills.list_most queue_counted q capacity long

pub waiting_cut : (q : Queue) → length q.slots ≡ capacity → take (min q.count capacity) q.slots ≡ waiting q
unfolding waiting
waiting_cut q long = counted_cut q.count q.slots capacity long

-- the head of a list that has one
pub head_some : (l : List Update) → 0 < length l → head_of l ≡ Some (update_at l 0)
unfolding update_at
head_some [] h = absurd (omega arith)
head_some (u ∷ l) h = refl

-- no update is lost or made
pub rotate_permutes : (l : List Update) → Permutation l (rotate l)
rotate_permutes [] = perm_of_eq refl
rotate_permutes (u ∷ l) = perm_append_comm (u ∷ []) l

-- a queue in which none waits stays, without its head and with it at the tail
module _ (q : Queue) (long : length q.slots ≡ capacity) (none : used_slots q ≡ 0) where
  no_length : (l : List Update) → length l ≡ 0 → l ≡ []
  no_length [] z = refl
  no_length (u ∷ l) z = absurd (omega arith)

  stays : q ≡ refill q []
  stays =
      let empty : q.count ≡ 0 = omega (arith, refills.list_length queue_counted q capacity long) in
      (λ i. record { count = empty i; slots = q.slots }) ∙ refill_none q

  pub none_popped : refill q (pop (waiting q)) ≡ q
  none_popped = ap (λ (l : List Update). refill q (pop l)) (no_length (waiting q) none) ∙ sym stays

  pub none_rotated : refill q (rotate (waiting q)) ≡ q
  none_rotated = ap (λ (l : List Update). refill q (rotate l)) (no_length (waiting q) none) ∙ sym stays

-- a queue with all updates after the head moved up by one place
module _ (q : Queue) (used : ℕ) (all : used ≡ used_slots q) where
  front : take used q.slots ≡ waiting q
  front = waiting_front q used all

  pub front_length : length (take used q.slots) ≡ used
  front_length = ap length front ∙ sym all

  -- the head is out
  pub popped : ◌≡◌ {A = Queue} (record { count = used - 1; slots = copy_within q.slots 1 used 0 }) (refill q (pop (waiting q)))
  unfolding refill overlay
  popped = λ i. record { count = sym rest_length i; slots = moved i }
    where
      rest_length : length (pop (waiting q)) ≡ used - 1
      rest_length = length-drop 1 (waiting q) ∙ omega arith

      moved : copy_within q.slots 1 used 0 ≡ overlay (pop (waiting q)) q.slots
      moved =
          ap (λ (l : List Update). l ++ drop (0 + (used - 1)) q.slots) (between_is q.slots 1 used ∙ ap (λ (l : List Update). drop 1 l) front)
          ∙ ap (λ (n : ℕ). pop (waiting q) ++ drop n q.slots) (omega (arith, rest_length))

  -- or put after the others
  pub rotated : (part : List Update) → part ≡ drop 1 (take used q.slots) ++ take 1 (take used q.slots)
      → ◌≡◌ {A = Queue} (record { count = used; slots = part ++ drop used q.slots }) (refill q (rotate (waiting q)))
  unfolding refill overlay
  rotated part e = λ i. record { count = sym rest_length i; slots = moved i }
    where
      rest_length : length (rotate (waiting q)) ≡ used
      rest_length = length-append (drop 1 (waiting q)) (take 1 (waiting q)) ∙ omega (arith, length-drop 1 (waiting q), length-take 1 (waiting q))

      moved : part ++ drop used q.slots ≡ overlay (rotate (waiting q)) q.slots
      moved =
          ap (λ (l : List Update). l ++ drop used q.slots) (e ∙ ap rotate front)
          ∙ ap (λ (n : ℕ). rotate (waiting q) ++ drop n q.slots) (sym rest_length)
