-- The places of a line, and what a push leaves. Assumes nothing.
use mathlib.Core.Path.{◌≡◌, refl, sym, ap, ◌∙◌}
use mathlib.Core.Bool.{Bool, true, false, cond, ◌||◌, false≢true}
use mathlib.Core.List.{List, [], ◌∷◌, ◌++◌}
use Prim.Native.Nat.{ℕ, ◌+◌, ◌<◌, ◌≤◌}
use native.Mathlib.Omega.{arith}
use lib.Dec.{leb}
use lib.ListN.{length, take, get_or, set, length-append}
use borrow.Author.Tests.{leb-false}
use Rattle.std.specs.Prelude.{◌⊎◌, Ok, Err}
use Rattle.std.proofs.Common.{inl, inr}
use Rattle.lists.proofs.Clash.{clash}
use Rattle.lists.proofs.Counted.{take_next}
use Rattle.lists.proofs.Filters.{filter_snoc, filter_skip}
use Rattle.lists.proofs.Refills as refills
use Rattle.updates.specs.declared.line.Line.{Line}
use Rattle.updates.specs.declared.update.Update.{Update}
use Rattle.updates.specs.declared.queue.Queue.{Queue}
use Rattle.updates.specs.Update.{blank_update, line_in, is_from}
use Rattle.updates.specs.Queue.{capacity, line_capacity, waiting, from_line, lacks_room, full, push_answer, pushing, push}
use Rattle.updates.proofs.Slots.{queue_counted}

-- one update further: it is of the line, or not
module _ (l : List Update) (m : Line) (i : ℕ) (h : i < length l) where
  further : take (i + 1) l ≡ take i l ++ (get_or l i blank_update ∷ [])
  further = take_next l i blank_update h

  pub count_one : is_from m (get_or l i blank_update) ≡ true → length (from_line m (take (i + 1) l)) ≡ length (from_line m (take i l)) + 1
  unfolding from_line
  count_one e =
      ap (λ (t : List Update). length (from_line m t)) further
      ∙ ap length (filter_snoc (is_from m) (take i l) (get_or l i blank_update) e)
      ∙ length-append (from_line m (take i l)) (get_or l i blank_update ∷ [])

  pub count_none : is_from m (get_or l i blank_update) ≡ false → length (from_line m (take (i + 1) l)) ≡ length (from_line m (take i l))
  unfolding from_line
  count_none e = ap (λ (t : List Update). length (from_line m t)) further ∙ ap length (filter_skip (is_from m) (take i l) (get_or l i blank_update) e)

or_right : (a b : Bool) → (a || b) ≡ false → b ≡ false
or_right true b e = absurd (false≢true (sym e))
or_right false b e = e

-- where a line has a place left a slot is free
pub room_slot : (l : List Update) (m : Line) → lacks_room l m ≡ false → length l < capacity
unfolding lacks_room
room_slot l m e = leb-false capacity (length l) (or_right (leb line_capacity (length (from_line m l))) (leb capacity (length l)) e)

-- a push leaves at most sixteen
pub push_few : (l : List Update) (u : Update) (n : ℕ) → push_answer l u ≡ Ok n → n ≤ 16
unfolding push_answer
push_few l u n e = go (lacks_room l (line_in u)) refl e
  where
    go : (b : Bool) → lacks_room l (line_in u) ≡ b → cond b (Err full) (Ok (length (l ++ (u ∷ [])))) ≡ Ok n → n ≤ 16
    go true f h = clash cc
    go false f h = let z : length (l ++ (u ∷ [])) ≡ n = cc in omega (arith, length-append l (u ∷ []), room_slot l (line_in u) f)

-- in the slots of a queue
module _ (q : Queue) (long : length q.slots ≡ capacity) where
  slot_free : (m : Line) → lacks_room (waiting q) m ≡ false → q.count < capacity
  slot_free m e = omega (arith, refills.list_length queue_counted q capacity long, room_slot (waiting q) m e)

  -- a line has no place left, or a slot is free
  pub full_or_free : (m : Line) → (lacks_room (waiting q) m ≡ true) ⊎ (q.count < capacity)
  full_or_free m = go (lacks_room (waiting q) m) refl
    where
      go : (b : Bool) → lacks_room (waiting q) m ≡ b → (b ≡ true) ⊎ (q.count < capacity)
      go true e = inl refl
      go false e = inr (slot_free m e)

  -- a push, by whether the update's line has a place left
  pub pushed : (u : Update) → push q u ≡ cond (lacks_room (waiting q) (line_in u)) (record { queue = q; answer = Err full })
      (record { queue = record { count = q.count + 1; slots = set q.slots q.count u }; answer = Ok (q.count + 1) })
  unfolding push_answer
  pushed u = go (lacks_room (waiting q) (line_in u)) refl
    where
      go : (b : Bool) → lacks_room (waiting q) (line_in u) ≡ b
          → pushing q u (cond b (Err full) (Ok (length (waiting q ++ (u ∷ [])))))
          ≡ cond b (record { queue = q; answer = Err full })
          (record { queue = record { count = q.count + 1; slots = set q.slots q.count u }; answer = Ok (q.count + 1) })
      go true e = refl
      go false e = λ i. record {
        queue = sym (refills.list_snoc queue_counted q capacity long u (slot_free (line_in u) e)) i;
        answer = Ok (sym (refills.list_more queue_counted q capacity long u (slot_free (line_in u) e)) i);
      }
