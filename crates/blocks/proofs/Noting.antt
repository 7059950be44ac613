-- The code's counting: one answer more is one number noted, and no count is over the number of answers. Assumes nothing.
use Prim.Native.Nat.{ℕ, zero, suc, ◌+◌, ◌-◌, ◌*◌, ◌≤◌, ◌<◌}
use mathlib.Core.Path.{◌≡◌, refl, sym, ap, ◌∙◌}
use mathlib.Core.Bool.{Bool, true, false, cond}
use mathlib.Core.List.{List, [], ◌∷◌, ◌++◌, map, append-nil, append_assoc}
use native.Mathlib.Omega.{arith}
use lib.Dec.{eqb, leb}
use lib.ListN.{length, get_or, set, replicate}
use borrow.Author.Tests.{eqb-true, eqb-false, leb-true, leb-false, le-leb, lt-leb, ne_eqb}
use Rattle.lists.specs.Filter.{All}
use Rattle.lists.proofs.Filters.{filter_length}
use Rattle.tpck.specs.Frame.{places, sum}
use Rattle.gateway.specs.declared.answers.ByteAnswer.{ByteAnswer}
use Rattle.gateway.specs.declared.answers.ByteAnswer.TheVariants.{Nothing}
use Rattle.blocks.specs.declared.counts.Counts.{Counts}
use Rattle.blocks.specs.Counts.{number_in, is_queued, taken_in, times, times_queued, total_taken, counted_numbers, counted, one, noted, with}
use Rattle.blocks.proofs.Tallies.{times_append, queued_append, taken_append}

-- ---- a number noted

pub noted_low : (k : ℕ) (l : List ℕ) → k < 3 → noted k l ≡ l
unfolding noted
noted_low k l h = rw (lt-leb 3 k h)

pub noted_high : (k : ℕ) (l : List ℕ) → 16 < k → noted k l ≡ l
unfolding noted
noted_high k l h = rw (le-leb 3 k (omega arith), lt-leb k 16 h)

pub noted_in : (k : ℕ) (l : List ℕ) → 3 ≤ k → k ≤ 16 → noted k l ≡ set l (k - 3) (get_or l (k - 3) 0 + 1)
unfolding noted
noted_in k l low high = rw (le-leb 3 k low, le-leb k 16 high)

-- ---- one number more, in a list of counts by number

-- n numbers from s on
abbrev up_from : ℕ → ℕ → List ℕ
up_from s zero = []
up_from s (suc n) = s ∷ up_from (suc s) n

module _ (f : ℕ → ℕ) (m : ℕ) where
  abbrev more : ℕ → ℕ
  more k = f k + one (eqb m k)

  same_at : (k : ℕ) → (m ≡ k → ⊥) → more k ≡ f k
  same_at k h = rw (ne_eqb m k h) (omega arith)

  -- a number that is none of them
  more_below : (s n : ℕ) → m < s → map more (up_from s n) ≡ map f (up_from s n)
  more_below s zero h = refl
  more_below s (suc n) h = λ i. same_at s (λ e. omega arith) i ∷ more_below (suc s) n (omega arith) i

  more_above : (s n : ℕ) → s + n ≤ m → map more (up_from s n) ≡ map f (up_from s n)
  more_above s zero h = refl
  more_above s (suc n) h = λ i. same_at s (λ e. omega arith) i ∷ more_above (suc s) n (omega arith) i

  -- a number of them: one more at its place
  more_at : (s n : ℕ) → s ≤ m → m < s + n → let l = map f (up_from s n) in map more (up_from s n) ≡ set l (m - s) (get_or l (m - s) 0 + 1)
  more_at s zero low high = absurd (omega arith)
  more_at s (suc n) low high = go (eqb m s) refl (λ h. more_at (suc s) n h (omega arith))
    where
      go : (t : Bool) → eqb m s ≡ t
          → (suc s ≤ m → let l = map f (up_from (suc s) n) in map more (up_from (suc s) n) ≡ set l (m - suc s) (get_or l (m - suc s) 0 + 1))
          → let l = map f (up_from s (suc n)) in map more (up_from s (suc n)) ≡ set l (m - s) (get_or l (m - s) 0 + 1)
      go true e rest =
          let z : m - s ≡ 0 = omega (arith, eqb-true m s e) in
          let head : more s ≡ f s + 1 = rw e in
          rw z (λ i. head i ∷ more_below (suc s) n (omega (arith, eqb-true m s e)) i)
      go false e rest =
          let low : suc s ≤ m = omega (arith, eqb-false m s e) in
          let z : m - s ≡ suc (m - suc s) = omega arith in
          rw z (λ i. same_at s (eqb-false m s e) i ∷ rest low i)

-- ---- one answer more

module _ (xs : List ByteAnswer) (a : ByteAnswer) where
  times_more : (k : ℕ) → times k (xs ++ (a ∷ [])) ≡ times k xs + one (eqb (number_in a) k)
  unfolding times
  times_more k = times_append k xs (a ∷ []) ∙ ap (λ (n : ℕ). times k xs + n) (go (eqb (number_in a) k))
    where
      go : (t : Bool) → length (cond t (a ∷ []) []) ≡ one t
      go true = refl
      go false = refl

  -- the counts of the numbers, with one answer more
  numbers_noted : map (λ k. times k (xs ++ (a ∷ []))) counted_numbers ≡ noted (number_in a) (map (λ k. times k xs) counted_numbers)
  numbers_noted = each counted_numbers ∙ go (leb 3 n) refl (leb n 16) refl
    where
      n : ℕ
      n = number_in a

      each : (l : List ℕ) → map (λ k. times k (xs ++ (a ∷ []))) l ≡ map (more (λ k. times k xs) n) l
      each [] = refl
      each (k ∷ l) = λ i. times_more k i ∷ each l i

      go : (low : Bool) → leb 3 n ≡ low → (high : Bool) → leb n 16 ≡ high
          → map (more (λ k. times k xs) n) counted_numbers ≡ noted n (map (λ k. times k xs) counted_numbers)
      go false low high e = more_below (λ k. times k xs) n 3 14 (leb-false 3 n low) ∙ sym (noted_low n (map (λ k. times k xs) counted_numbers) (leb-false 3 n low))
      go true low false high = more_above (λ k. times k xs) n 3 14 (leb-false n 16 high) ∙ sym (noted_high n (map (λ k. times k xs) counted_numbers) (leb-false n 16 high))
      go true low true high =
          more_at (λ k. times k xs) n 3 14 (leb-true 3 n low) (omega (arith, leb-true n 16 high))
          ∙ sym (noted_in n (map (λ k. times k xs) counted_numbers) (leb-true 3 n low) (leb-true n 16 high))

  queued_more : times_queued (xs ++ (a ∷ [])) ≡ times_queued xs + one (is_queued a)
  unfolding times_queued
  queued_more = queued_append xs (a ∷ []) ∙ ap (λ (n : ℕ). times_queued xs + n) (go (is_queued a))
    where
      go : (t : Bool) → length (cond t (a ∷ []) []) ≡ one t
      go true = refl
      go false = refl

  taken_more : total_taken (xs ++ (a ∷ [])) ≡ total_taken xs + taken_in a
  unfolding total_taken sum
  taken_more = taken_append xs (a ∷ []) ∙ omega arith

pub counted_more : (xs : List ByteAnswer) (a : ByteAnswer) → counted (xs ++ (a ∷ [])) ≡ with a (counted xs)
unfolding counted
counted_more xs a = λ i. record { numbers = numbers_noted xs a i; queued = queued_more xs a i; body = taken_more xs a i }

-- ---- answers that count nothing

nothing_counts : (c : Counts) → with Nothing c ≡ c
nothing_counts c =
    let q : c.queued + 0 ≡ c.queued = omega arith in
    let t : c.body + 0 ≡ c.body = omega arith in
    λ i. record { numbers = noted_low 0 c.numbers (omega arith) i; queued = q i; body = t i }

pub counted_quiet : (xs : List ByteAnswer) (n : ℕ) → counted (xs ++ replicate n Nothing) ≡ counted xs
counted_quiet xs zero = ap counted (append-nil xs)
counted_quiet xs (suc n) =
    ap counted (sym (append_assoc xs (Nothing ∷ []) (replicate n Nothing)))
    ∙ counted_quiet (xs ++ (Nothing ∷ [])) n ∙ counted_more xs Nothing ∙ nothing_counts (counted xs)

-- ---- no count is over the number of answers, nor the body bytes over as many bodies

times_few : (k : ℕ) (xs : List ByteAnswer) → times k xs ≤ length xs
unfolding times
times_few k xs = filter_length (λ (a : ByteAnswer). eqb (number_in a) k) xs

queued_few : (xs : List ByteAnswer) → times_queued xs ≤ length xs
unfolding times_queued
queued_few xs = filter_length is_queued xs

taken_few : (xs : List ByteAnswer) → All (λ a. taken_in a ≤ places) xs → total_taken xs ≤ places * length xs
unfolding total_taken sum
taken_few [] h = omega arith
taken_few (a ∷ xs) h = omega (arith, h.0, taken_few xs h.1)

pub one_few : (b : Bool) → one b ≤ 1
one_few true = omega arith
one_few false = omega arith

map_few : (f : ℕ → ℕ) (m : ℕ) → ((k : ℕ) → f k ≤ m) → (l : List ℕ) (j : ℕ) → get_or (map f l) j 0 ≤ m
map_few f m h [] j = omega arith
map_few f m h (k ∷ l) zero = h k
map_few f m h (k ∷ l) (suc j) = map_few f m h l j

-- of the counts of some answers
module _ (c : Counts) (xs : List ByteAnswer) (e : c ≡ counted xs) where
  pub numbers_length : length c.numbers ≡ 14
  unfolding counted
  numbers_length = ap (λ (x : Counts). length x.numbers) e

  pub numbers_few : (m : ℕ) → length xs ≤ m → (k : ℕ) → get_or c.numbers k 0 ≤ m
  unfolding counted
  numbers_few m h k = rw e (map_few (λ j. times j xs) m (λ j. omega (arith, times_few j xs)) counted_numbers k)

  pub queued_within : c.queued ≤ length xs
  unfolding counted
  queued_within = rw e (queued_few xs)

  pub body_within : All (λ a. taken_in a ≤ places) xs → c.body ≤ places * length xs
  unfolding counted
  body_within h = rw e (taken_few xs h)
