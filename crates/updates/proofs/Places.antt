-- The places of the lines: what each step of the queue leaves of them, and that a line of eight that is not full has a slot. Assumes
-- nothing.
use mathlib.Core.Path.{◌≡◌, refl, sym, ◌∙◌}
use mathlib.Core.Bool.{Bool, true, false, cond, ◌||◌, false≢true}
use mathlib.Core.List.{List, [], ◌∷◌, ◌++◌, map}
use Prim.Native.Nat.{suc, ◌+◌, ◌≤◌}
use native.Mathlib.Omega.{arith}
use lib.Dec.{leb}
use lib.ListN.{length, length-append}
use borrow.Author.Tests.{le-leb, leb-true, leb-false}
use Rattle.lists.specs.Filter.{filter}
use Rattle.lists.proofs.Filters.{or_left, filter_snoc, filter_skip}
use Rattle.lists.proofs.Permutations.{perm_filter, perm_length}
use Rattle.updates.specs.declared.line.Line.{Line}
use Rattle.updates.specs.declared.line.Line.TheVariants.{Controller, Panel}
use Rattle.updates.specs.contracts.line.LinePartialEq.TheImpl as line_eq
use Rattle.updates.specs.declared.update.Update.{Update}
use Rattle.updates.specs.Line.{line_of, line_number, same_line}
use Rattle.updates.specs.Update.{older, young, line_in, is_from}
use Rattle.updates.specs.Queue.{capacity, line_capacity, from_line, lacks_room, rotate}
use Rattle.updates.specs.Tick.{keeping}
use Rattle.updates.proofs.Slots.{rotate_permutes}

pub line_of_number : (l : Line) → line_of (line_number l) ≡ l
unfolding line_of
line_of_number Controller = refl
line_of_number Panel = refl

pub same_line_lem : (l m : Line) → same_line l m ≡ true → l ≡ m
same_line_lem Controller Controller e = refl
same_line_lem Controller Panel e = absurd (false≢true e)
same_line_lem Panel Controller e = absurd (false≢true e)
same_line_lem Panel Panel e = refl

-- what `==` of two lines computes
pub derived_is : (l m : Line) → (line_eq.ghosts).eq l m ≡ same_line l m
derived_is Controller Controller = refl
derived_is Controller Panel = refl
derived_is Panel Controller = refl
derived_is Panel Panel = refl

-- no line has more than its places
abbrev pub Placed : List Update → Type 0
Placed q = (l : Line) → length (from_line l q) ≤ line_capacity

-- each update is of one line
both_lines : (q : List Update) → length (from_line Controller q) + length (from_line Panel q) ≡ length q
unfolding from_line is_from
both_lines [] = refl
both_lines (u ∷ q) = go (line_in u) (both_lines q)
  where
    go : (l : Line) → length (from_line Controller q) + length (from_line Panel q) ≡ length q
        → length (cond (same_line Controller l) (u ∷ from_line Controller q) (from_line Controller q)) + length (cond (same_line Panel l) (u ∷ from_line Panel q) (from_line Panel q))
        ≡ suc (length q)
    go Controller h = omega (arith, h)
    go Panel h = omega (arith, h)

-- so sixteen are eight of each, and a line lacks room just where eight of it wait
full_line : (q : List Update) → Placed q → capacity ≤ length q → (l : Line) → line_capacity ≤ length (from_line l q)
full_line q h n Controller = omega (arith, both_lines q, h Panel)
full_line q h n Panel = omega (arith, both_lines q, h Controller)

pub room_is : (q : List Update) (l : Line) → Placed q → lacks_room q l ≡ leb line_capacity (length (from_line l q))
unfolding lacks_room
room_is q l h = go (leb line_capacity (length (from_line l q))) (leb capacity (length q)) refl refl
  where
    go : (a b : Bool) → leb line_capacity (length (from_line l q)) ≡ a → leb capacity (length q) ≡ b → (a || b) ≡ a
    go true b e f = refl
    go false false e f = refl
    go false true e f = absurd (false≢true (sym e ∙ le-leb line_capacity (length (from_line l q)) (full_line q h (leb-true capacity (length q) f) l)))

-- ---- what each step leaves

-- an update queued where its line had a place left
pub push_placed : (q : List Update) (u : Update) → lacks_room q (line_in u) ≡ false → Placed q → Placed (q ++ (u ∷ []))
unfolding lacks_room from_line is_from
push_placed q u e h l = go (is_from l u) refl
  where
    room : length (from_line (line_in u) q) + 1 ≤ line_capacity
    room = omega (arith, leb-false line_capacity (length (from_line (line_in u) q)) (or_left (leb line_capacity (length (from_line (line_in u) q))) _ e))

    go : (b : Bool) → is_from l u ≡ b → length (filter (is_from l) (q ++ (u ∷ []))) ≤ line_capacity
    go true f = rw (filter_snoc (is_from l) q u f, length-append (filter (is_from l) q) (u ∷ []), same_line_lem l (line_in u) f) room
    go false f = rw (filter_skip (is_from l) q u f) (h l)

-- the head taken out
pub pop_placed : (u : Update) (q : List Update) → Placed (u ∷ q) → Placed q
unfolding from_line
pop_placed u q h l = go (is_from l u) (h l)
  where
    go : (b : Bool) → length (cond b (u ∷ filter (is_from l) q) (filter (is_from l) q)) ≤ line_capacity → length (filter (is_from l) q) ≤ line_capacity
    go true n = omega (arith, n)
    go false n = n

-- the head put at the tail
pub rotate_placed : (q : List Update) → Placed q → Placed (rotate q)
unfolding from_line
rotate_placed q h l = omega (arith, h l, perm_length (perm_filter (is_from l) (rotate_permutes q)))

-- a tick
tick_fewer : (l : Line) (q : List Update) → length (from_line l (keeping q)) ≤ length (from_line l q)
unfolding from_line keeping is_from
tick_fewer l [] = omega arith
tick_fewer l (u ∷ q) = go (young (older u)) (tick_fewer l q)
  where
    on : List Update
    on = filter (is_from l) (filter young (map older q))

    before : List Update
    before = filter (is_from l) q

    stays : (b : Bool) → length on ≤ length before → length (cond b (older u ∷ on) on) ≤ length (cond b (u ∷ before) before)
    stays true n = omega (arith, n)
    stays false n = n

    leaves : (b : Bool) → length on ≤ length before → length on ≤ length (cond b (u ∷ before) before)
    leaves true n = omega (arith, n)
    leaves false n = n

    go : (a : Bool) → length on ≤ length before
        → length (filter (is_from l) (cond a (older u ∷ filter young (map older q)) (filter young (map older q)))) ≤ length (cond (is_from l u) (u ∷ before) before)
    go true n = stays (is_from l u) n
    go false n = leaves (is_from l u) n

pub tick_placed : (q : List Update) → Placed q → Placed (keeping q)
tick_placed q h l = omega (arith, h l, tick_fewer l q)
