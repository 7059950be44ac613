-- The two lists of a tick: one update further, what they have in common with the whole, and the ages that stay.
-- Assumes nothing.
use mathlib.Core.Path.{◌≡◌, refl, sym, ap, ◌∙◌}
use mathlib.Core.List.{List, [], ◌∷◌, ◌++◌, map}
use mathlib.Core.Bool.{true, false, not}
use Prim.Native.Nat.{ℕ, ◌+◌, ◌<◌, ◌≤◌}
use native.Mathlib.Omega.{arith}
use lib.ListN.{length, take, get_or, set, replicate, length-map}
use lib.Seq.{take_all}
use borrow.Author.Tests.{le-leb, lt-leb, leb-false, not-true}
use Rattle.lists.specs.Filter.{filter, All}
use Rattle.lists.specs.Permutation.{Permutation}
use Rattle.lists.proofs.Counted.{take_next}
use Rattle.lists.proofs.Filling.{Filled, filled_none, filled_same, filled_next}
use Rattle.lists.proofs.Filters.{filter_snoc, filter_skip, filter_length, filter_all, map-append, map_after}
use Rattle.lists.proofs.Permutations.{perm_split, perm-map}
use Rattle.updates.specs.declared.update.Update.{Update}
use Rattle.updates.specs.declared.update.LineField.{LineField}
use Rattle.updates.specs.declared.queue.Queue.{Queue}
use Rattle.updates.specs.declared.tick.Fields.{Fields}
use Rattle.updates.specs.declared.tick.Ticked.{Ticked}
use Rattle.updates.specs.Update.{named, older, old, young, blank_named, blank_update}
use Rattle.updates.specs.Queue.{capacity, waiting, refill}
use Rattle.updates.specs.Tick.{keeping, leaving, listed, tick}
use Rattle.updates.proofs.Slots.{used_most}

module _ (l : List Update) (u : Update) where
  -- an update whose time is over
  module _ (h : 119 ≤ u.age) where
    over : old (older u) ≡ true
    over = le-leb 120 (u.age + 1) (omega arith)

    pub keeping_old : keeping (l ++ (u ∷ [])) ≡ keeping l
    unfolding keeping
    keeping_old = ap (filter young) (map-append older l (u ∷ [])) ∙ filter_skip young (map older l) (older u) (ap not over)

    pub leaving_old : leaving (l ++ (u ∷ [])) ≡ leaving l ++ (named u ∷ [])
    unfolding leaving
    leaving_old =
        ap (λ (m : List Update). map named (filter old m)) (map-append older l (u ∷ []))
        ∙ ap (λ (m : List Update). map named m) (filter_snoc old (map older l) (older u) over)
        ∙ map-append named (filter old (map older l)) (older u ∷ [])

  -- an update that waits on
  module _ (h : u.age < 119) where
    on : old (older u) ≡ false
    on = lt-leb 120 (u.age + 1) (omega arith)

    pub keeping_young : keeping (l ++ (u ∷ [])) ≡ keeping l ++ (older u ∷ [])
    unfolding keeping
    keeping_young = ap (filter young) (map-append older l (u ∷ [])) ∙ filter_snoc young (map older l) (older u) (ap not on)

    pub leaving_young : leaving (l ++ (u ∷ [])) ≡ leaving l
    unfolding leaving
    leaving_young =
        ap (λ (m : List Update). map named (filter old m)) (map-append older l (u ∷ []))
        ∙ ap (λ (m : List Update). map named m) (filter_skip old (map older l) (older u) on)

module _ (l : List Update) where
  pub keeping_length : length (keeping l) ≤ length l
  unfolding keeping
  keeping_length = omega (arith, filter_length young (map older l), length-map l older)

  -- each field stays or leaves, with its line, and none does both
  pub tick_fields : Permutation (leaving l ++ map named (keeping l)) (map named l)
  unfolding keeping leaving
  tick_fields =
      rw (map-append named (filter old (map older l)) (filter young (map older l)), map_after named older (λ u. refl) l)
      at (perm-map named (perm_split old (map older l)))

  -- what stays has waited less than two minutes
  pub keeping_ages : All (λ u. u.age < 120) (keeping l)
  unfolding keeping
  keeping_ages = filter_all (λ u. u.age < 120) young (λ u e. leb-false 120 u.age (not-true (old u) e)) (map older l)

-- the list of fields before one is put in
abbrev pub blanks : List LineField
blanks = replicate capacity blank_named

-- a queue and a list of fields as the tick's loop has them after the first i updates
pub record Passed (q : Queue) (i : ℕ) (queue : Queue) (fields : Fields) : Type 0 where
  pub kept : Filled q.slots (keeping (take i (waiting q))) queue.slots queue.count
  pub left : Filled blanks (leaving (take i (waiting q))) fields.list fields.count
  pub kept_few : queue.count ≤ i
  pub left_few : fields.count ≤ i

module _ (q : Queue) where
  pub passed_none : Passed q 0 (record { count = 0; slots = q.slots }) (record { count = 0; list = blanks })
  unfolding keeping leaving
  passed_none = record { kept = filled_none q.slots; left = filled_none blanks; kept_few = omega arith; left_few = omega arith }

  -- one more
  module _ (long : length q.slots ≡ capacity) (i : ℕ) (h : i < length (waiting q)) (u : Update) (this : u ≡ get_or (waiting q) i blank_update)
      {queue : Queue} {fields : Fields} (v : Passed q i queue fields)
    where
      further : take (i + 1) (waiting q) ≡ take i (waiting q) ++ (u ∷ [])
      further = take_next (waiting q) i blank_update h ∙ ap (λ (x : Update). take i (waiting q) ++ (x ∷ [])) (sym this)

      inside : i < 16
      inside = omega (arith, h, used_most q long)

      -- its time is over
      pub passed_old : 119 ≤ u.age → Passed q (i + 1) queue (record { count = fields.count + 1; list = set fields.list fields.count (named u) })
      passed_old e = record {
        kept = filled_same v.kept (ap keeping further ∙ keeping_old (take i (waiting q)) u e);
        left = filled_next v.left (named u) (omega (arith, inside, v.left_few)) refl (ap leaving further ∙ leaving_old (take i (waiting q)) u e);
        kept_few = omega (arith, v.kept_few);
        left_few = omega (arith, v.left_few);
      }

      -- it waits on
      pub passed_young : u.age < 119 → Passed q (i + 1) (record { count = queue.count + 1; slots = set queue.slots queue.count (older u) }) fields
      passed_young e = record {
        kept = filled_next v.kept (older u) (omega (arith, inside, long, v.kept_few)) refl (ap keeping further ∙ keeping_young (take i (waiting q)) u e);
        left = filled_same v.left (ap leaving further ∙ leaving_young (take i (waiting q)) u e);
        kept_few = omega (arith, v.kept_few);
        left_few = omega (arith, v.left_few);
      }

  -- all of them
  pub passed_all : (i : ℕ) → length (waiting q) ≤ i → {queue : Queue} {fields : Fields} → Passed q i queue fields
      → ◌≡◌ {A = Ticked} (record { queue = queue; fields = fields }) (tick q)
  unfolding tick refill listed
  passed_all i h v =
      let all = take_all i (waiting q) h in
      let k = filled_same v.kept (ap keeping (sym all)) in
      let f = filled_same v.left (ap leaving (sym all)) in
      λ j. record { queue = record { count = k.counted j; slots = k.laid j }; fields = record { count = f.counted j; list = f.laid j } }
