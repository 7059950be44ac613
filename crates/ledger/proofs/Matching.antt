-- The queue and the ledger's waits in the queue's order match, place by place: what each step does to the two; and no field waits
-- twice. Assumes nothing.
use mathlib.Core.Path.{◌≡◌, refl, sym, ap, ◌∙◌}
use mathlib.Core.Bool.{Bool, true, false, cond, not, true≢false}
use mathlib.Core.List.{List, [], ◌∷◌, ◌++◌, map}
use Prim.Native.Nat.{ℕ, suc, ◌+◌, ◌<◌, ◌≤◌}
use native.Mathlib.Numerals.{add-one}
use native.Mathlib.Omega.{arith}
use lib.Dec.{ltb, leb}
use lib.ListN.{length}
use borrow.Author.Tests.{ltb-true, ltb-false, le-leb, lt-leb}
use Rattle.lists.specs.Filter.{filter, any, All}
use Rattle.lists.proofs.Filters.{or_left, or_right, any_append, any_filter, any_map}
use Rattle.lists.proofs.Matches as matches
use Rattle.lists.proofs.Matches.{match_length, match_map, match_any, match_all, match_snoc, match_imp, match_left, match_right, match_filter}
use Rattle.devices.specs.declared.field.Field.{Field}
use Rattle.devices.specs.Field.{same_field}
use Rattle.devices.proofs.Fields.{same_eq, same_refl}
use Rattle.updates.specs.declared.line.Line.{Line}
use Rattle.updates.specs.declared.update.Update.{Update}
use Rattle.updates.specs.Update.{named, older, old, young, line_in, is_from}
use Rattle.updates.specs.Queue as queue
use Rattle.updates.specs.Line.{same_line}
use Rattle.updates.specs.Queue.{waits, from_line}
use Rattle.updates.specs.Tick.{keeping, leaving}
use Rattle.ledger.specs.Call.{named_by}
use Rattle.ledger.specs.Ledger.{Wait, is_of, is_on, raised, aged, stays, goes}
use Rattle.ledger.specs.Demand3.{Aged, of_wait, of_update, Distinct, InTime, named_as}
use Rattle.ledger.specs.Lives.{later}

-- ---- tests

pub below_is : (n m : ℕ) → ltb n m ≡ not (leb m n)
below_is n m = go (ltb n m) refl
  where
    go : (b : Bool) → ltb n m ≡ b → b ≡ not (leb m n)
    go true e = rw (lt-leb m n (ltb-true n m e))
    go false e = rw (le-leb m n (ltb-false n m e))

not_not : (b : Bool) → not (not b) ≡ b
not_not true = refl
not_not false = refl

-- a wait and an update of the same age stay at a tick, or go, together
module _ (s : Wait) (u : Update) (e : s.ticks ≡ u.age) where
  both_stay : stays s ≡ young u
  both_stay = below_is s.ticks 120 ∙ ap (λ (n : ℕ). not (leb 120 n)) e

  both_go : goes s ≡ old u
  both_go = ap not both_stay ∙ not_not (old u)

other_way : (f g : Field) → same_field f g ≡ false → same_field g f ≡ false
other_way f g e = go (same_field g f) refl
  where
    go : (b : Bool) → same_field g f ≡ b → b ≡ false
    go false h = refl
    go true h = rw (same_eq g f h, same_refl f) at e

apart : (f g : Field) → same_field f g ≡ false → f ≡ g → ⊥
apart f g e p = true≢false (sym (same_refl g) ∙ (rw p at e))

-- ---- the waits in the order of the queue

-- a wait and the update at place p of the queue: they agree, and the p updates before it are tried before its sixteenth turn
pub record Matched (p : ℕ) (s : Wait) (u : Update) : Type 0 where
  pub agrees : of_wait s ≡ of_update u
  pub young : s.ticks < 120
  pub turns : s.turns + p < 16

module _ {p : ℕ} {s : Wait} {u : Update} (m : Matched p s u) where
  pub matched_field : s.field ≡ u.field
  matched_field = ap (λ (x : Aged). x.field) m.agrees

  pub matched_line : s.line ≡ line_in u
  matched_line = ap (λ (x : Aged). x.line) m.agrees

  -- one tick later
  matched_later : of_wait (aged s) ≡ of_update (older u)
  matched_later = ap later m.agrees ∙ (λ i. record { line = line_in u; field = u.field; value = u.value; ticks = sym (add-one u.age) i })

-- from place p on
abbrev pub Matching : ℕ → List Wait → List Update → Type 0
Matching p l q = matches.Matching Matched p l q

pub matching_length : {p : ℕ} {l : List Wait} {q : List Update} → Matching p l q → length l ≡ length q
matching_length r = match_length Matched r

pub matching_agrees : {p : ℕ} {l : List Wait} {q : List Update} → Matching p l q → map of_wait l ≡ map of_update q
matching_agrees r = match_map Matched of_wait of_update (λ p s u m. m.agrees) r

pub matching_in_time : {p : ℕ} {l : List Wait} {q : List Update} → Matching p l q → All InTime l
matching_in_time r = match_all Matched InTime (λ p s u m. record { ticks = m.young; turns = omega (arith, m.turns) }) r

pub matching_waits : (f : Field) {p : ℕ} {l : List Wait} {q : List Update} → Matching p l q → any (is_of f) l ≡ waits q f
unfolding waits
matching_waits f r = match_any Matched (is_of f) (queue.is_of f) (λ p s u m. ap (same_field f) (matched_field m)) r

-- a test of what an element stands for, counted of the elements
counted : {A B : Type 0} (f : A → B) (p : B → Bool) (l : List A) → length (filter (λ x. p (f x)) l) ≡ length (filter p (map f l))
counted f p [] = refl
counted f p (x ∷ l) = go (p (f x)) (counted f p l)
  where
    go : (b : Bool) → length (filter (λ y. p (f y)) l) ≡ length (filter p (map f l))
        → length (cond b (x ∷ filter (λ y. p (f y)) l) (filter (λ y. p (f y)) l)) ≡ length (cond b (f x ∷ filter p (map f l)) (filter p (map f l)))
    go true e = ap suc e
    go false e = e

-- as many wait of a line
pub matching_from : (m : Line) {p : ℕ} {l : List Wait} {q : List Update} → Matching p l q → length (filter (is_on m) l) ≡ length (from_line m q)
unfolding from_line is_from
matching_from m {l = l} {q = q} r =
    let on : Aged → Bool = λ x. same_line m x.line in
    counted of_wait on l ∙ ap (λ (x : List Aged). length (filter on x)) (matching_agrees r) ∙ sym (counted of_update on q)

-- one more at the tail
pub matching_append : {p : ℕ} {l : List Wait} {q : List Update} (s : Wait) (u : Update) → of_wait s ≡ of_update u → s.ticks < 120
    → s.turns + (p + length q) < 16 → Matching p l q → Matching p (l ++ (s ∷ [])) (q ++ (u ∷ []))
matching_append s u e y h r = match_snoc Matched s u (record { agrees = e; young = y; turns = h }) r

-- the head is gone: each stands one place further to the front, and its turns have risen
pub matching_raised : {p : ℕ} {l : List Wait} {q : List Update} → Matching (suc p) l q → Matching p (map raised l) q
matching_raised {p} r =
    match_left Matched raised
    (match_imp Matched (λ n s u. Matched n (raised s) u) (λ i s u m. record { agrees = m.agrees; young = m.young; turns = omega (arith, m.turns) }) r)

map_twice : {A B C : Type 0} (g : B → C) (f : A → B) (l : List A) → map g (map f l) ≡ map (λ x. g (f x)) l
map_twice g f [] = refl
map_twice g f (x ∷ l) = ap (λ (r : List _). g (f x) ∷ r) (map_twice g f l)

-- a wait and its update after a tick, before the old ones leave
record Later (p : ℕ) (s : Wait) (u : Update) : Type 0 where
  agrees : of_wait s ≡ of_update u
  turns : s.turns + p < 16

later_ticks : {p : ℕ} {s : Wait} {u : Update} → Later p s u → s.ticks ≡ u.age
later_ticks m = ap (λ (x : Aged). x.ticks) m.agrees

matching_later : {p : ℕ} {l : List Wait} {q : List Update} → Matching p l q → matches.Matching Later p (map aged l) (map older q)
matching_later r =
    match_left Later aged
    (match_right (λ n s u. Later n (aged s) u) older
    (match_imp Matched (λ n s u. Later n (aged s) (older u)) (λ i s u m. record { agrees = matched_later m; turns = m.turns }) r))

-- a tick: no one stands further back
pub matching_tick : {n p : ℕ} {l : List Wait} {q : List Update} → p ≤ n → Matching n l q → Matching p (filter stays (map aged l)) (keeping q)
unfolding keeping
matching_tick h r =
    match_filter Later Matched stays young (λ n s u m. both_stay s u (later_ticks m))
    (λ p n s u below m e. record { agrees = m.agrees; young = ltb-true _ _ e; turns = omega (arith, m.turns) })
    h (matching_later r)

-- and the same fields go, named with the same lines
pub matching_goes : {p : ℕ} {l : List Wait} {q : List Update} → Matching p l q → map named_as (filter goes (map aged l)) ≡ map named_by (leaving q)
unfolding leaving
matching_goes {p} {q = q} r =
    match_map Later named_as (λ u. named_by (named u)) (λ n s u m. ap (λ (x : Aged). record { line = x.line; field = x.field }) m.agrees)
    (match_filter Later Later goes old (λ n s u m. both_go s u (later_ticks m))
    (λ i n s u below m e. record { agrees = m.agrees; turns = omega (arith, m.turns) })
    {p = p} (omega arith) (matching_later r))
    ∙ sym (map_twice named_by named (filter old (map older q)))

-- ---- no field waits twice

abbrev pub Different : List Update → Type 0
Different [] = Unit {0}
Different (u ∷ q) = (waits q u.field ≡ false) × Different q

pub different_append : (q : List Update) (u : Update) → Different q → waits q u.field ≡ false → Different (q ++ (u ∷ []))
unfolding waits
different_append [] u d h = (refl, tt)
different_append (x ∷ q) u d h = (
  any_append (queue.is_of x.field) q (u ∷ []) ∙ rw (d.0, other_way u.field x.field (or_left (same_field u.field x.field) _ h)),
  different_append q u d.1 (or_right (same_field u.field x.field) _ h),
)

still_none : (f : Field) (q : List Update) → waits q f ≡ false → waits (keeping q) f ≡ false
unfolding waits keeping
still_none f q h = any_filter (queue.is_of f) young (map older q) (any_map (queue.is_of f) older q ∙ h)

pub different_tick : (q : List Update) → Different q → Different (keeping q)
unfolding keeping
different_tick [] d = tt
different_tick (u ∷ q) d = go (young (older u)) (different_tick q d.1)
  where
    go : (c : Bool) → Different (keeping q) → Different (cond c (older u ∷ keeping q) (keeping q))
    go true k = (still_none u.field q d.0, k)
    go false k = k

none_same : (f : Field) (q : List Update) → waits q f ≡ false → All (λ g. f ≡ g → ⊥) (map (λ u. u.field) q)
unfolding waits
none_same f [] h = tt
none_same f (u ∷ q) h =
    (apart f u.field (or_left (same_field f u.field) _ h), none_same f q (or_right (same_field f u.field) _ h))

pub different_distinct : (q : List Update) → Different q → Distinct (map (λ u. u.field) q)
different_distinct [] d = tt
different_distinct (u ∷ q) d = (none_same u.field q d.0, different_distinct q d.1)
