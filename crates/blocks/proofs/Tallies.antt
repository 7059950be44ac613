-- The counts of two parts are those of both, summed. Assumes nothing.
use Prim.Native.Nat.{ℕ, ◌+◌}
use mathlib.Core.Path.{◌≡◌, refl, ap, ◌∙◌}
use mathlib.Core.List.{List, [], ◌∷◌, ◌++◌, map, map-append}
use lib.Dec.{eqb}
use lib.ListN.{length, length-append}
use Rattle.lists.specs.Filter.{filter}
use Rattle.lists.proofs.Filters.{filter_append}
use Rattle.tpck.specs.Frame.{sum}
use Rattle.tpck.proofs.Sums.{sum_append}
use Rattle.gateway.specs.declared.answers.ByteAnswer.{ByteAnswer}
use Rattle.blocks.specs.Counts.{number_in, is_queued, taken_in, times, times_queued, total_taken, counted_numbers, counted}
use Rattle.blocks.specs.Cutting.{added, summed}

pub times_append : (k : ℕ) (xs ys : List ByteAnswer) → times k (xs ++ ys) ≡ times k xs + times k ys
unfolding times
times_append k xs ys =
    ap length (filter_append (λ (a : ByteAnswer). eqb (number_in a) k) xs ys) ∙ length-append (filter (λ (a : ByteAnswer). eqb (number_in a) k) xs) _

pub queued_append : (xs ys : List ByteAnswer) → times_queued (xs ++ ys) ≡ times_queued xs + times_queued ys
unfolding times_queued
queued_append xs ys = ap length (filter_append is_queued xs ys) ∙ length-append (filter is_queued xs) _

pub taken_append : (xs ys : List ByteAnswer) → total_taken (xs ++ ys) ≡ total_taken xs + total_taken ys
unfolding total_taken
taken_append xs ys = ap sum (map-append taken_in xs ys) ∙ sum_append (map taken_in xs) (map taken_in ys)

-- sums place by place
added_map : (f g h : ℕ → ℕ) (l : List ℕ) → ((k : ℕ) → h k ≡ f k + g k) → map h l ≡ added (map f l) (map g l)
added_map f g h [] e = refl
added_map f g h (k ∷ l) e = λ i. e k i ∷ added_map f g h l e i

pub counted_append : (xs ys : List ByteAnswer) → counted (xs ++ ys) ≡ summed (counted xs) (counted ys)
unfolding counted
counted_append xs ys =
    λ i. record {
      numbers = added_map (λ k. times k xs) (λ k. times k ys) (λ k. times k (xs ++ ys)) counted_numbers (λ k. times_append k xs ys) i;
      queued = queued_append xs ys i;
      body = taken_append xs ys i;
    }
