-- What a step prints fits the room that the program keeps for the text of a line. Assumes nothing.
use Rattle.std.proofs.Common.{◌≡◌, ℕ, ◌^◌, ◌<◌, ◌≤◌, Bool, true, false, cond, eqb, leb, List, [], ◌∷◌, ◌++◌, length, take, refl, arith, eqb-true}
use mathlib.Core.List.{foldl}
use borrow.Author.Tests.{eqb-false}
use Rattle.text.specs.Place.{place_after}
use Rattle.gateway.specs.declared.gateway.Gateway.{Gateway}
use Rattle.gateway.specs.View.{view}
use Rattle.transcript.proofs.AnswerLengths.{bad_line_most}
use Rattle.transcript.proofs.StateLengths.{StateFits}
use Rattle.interpreter.specs.Limits.{longest, most_kept, most_text}
use Rattle.interpreter.specs.Done.{Done, bad, as_was}
use Rattle.interpreter.specs.Line.{run_line}
use Rattle.interpreter.proofs.LineSizes.{line_fits}
use Rattle.replay.specs.Progress.{line_room, State, longer, line_number, ending, done_text, line_text, printed_of, last_of, line_end, used_of}
use Rattle.replay.proofs.Parts.{printed_open, printed_line}

done_fits : (number : ℕ) (d : Done) → number < 2 ^ 64 → length d.text ≤ most_text → length (done_text number d) ≤ most_text
done_fits number d h k = go d.good
  where
    go : (t : Bool) → length (done_text number (record { gateway = d.gateway; text = d.text; good = t })) ≤ most_text
    go true = k
    go false = omega (arith, bad_line_most number h)

ending_fits : (s : State) → StateFits (view s.gateway) → length (ending s).done.text ≤ most_text
ending_fits s f = go s.over
  where
    go : (t : Bool) → length (cond t (as_was s.more (bad s.gateway)) (run_line s.gateway most_kept s.more s.kept)).done.text ≤ most_text
    go true = omega arith
    go false = line_fits s.gateway most_kept s.more s.kept f

line_text_fits : (s : State) → StateFits (view s.gateway) → length (line_text s) ≤ most_text
line_text_fits s f = done_fits (line_number s) (ending s).done (omega arith) (ending_fits s f)

-- the text of every line that ends on a gateway with these sizes
pub line_short : (g : Gateway) → StateFits (view g) → (s : State) → s.gateway ≡ g → length (line_text s) ≤ most_text
line_short g f s same = line_text_fits s (rw same f)

longer_gateway : (l : List ℕ) (s : State) → (foldl longer s l).gateway ≡ s.gateway
unfolding longer
longer_gateway [] s = refl
longer_gateway (b ∷ l) s = go (leb longest (length s.kept)) (λ t. longer_gateway l t)
  where
    go : (t : Bool) → ((u : State) → (foldl longer u l).gateway ≡ u.gateway)
        → (foldl longer (cond t (record { gateway = s.gateway; lines = s.lines; kept = s.kept; over = true; more = s.more }) (record { gateway = s.gateway; lines = s.lines; kept = s.kept ++ b ∷ []; over = s.over; more = s.more })) l).gateway ≡ s.gateway
    go true f = f _
    go false f = f _

module _ (s : State) (short : (t : State) → t.gateway ≡ s.gateway → length (line_text t) ≤ most_text) {size : ℕ} (room : line_room ≤ size) where
  -- nothing that a step prints is cut off
  pub step_whole : (l : List ℕ) → place_after size 0 (length (printed_of s (take (used_of l) l))) ≡ length (printed_of s (take (used_of l) l))
  step_whole l = go (eqb (line_end l) (length l)) refl
    where
      go : (t : Bool) → eqb (line_end l) (length l) ≡ t
          → place_after size 0 (length (printed_of s (take (used_of l) l))) ≡ length (printed_of s (take (used_of l) l))
      go true e = rw (printed_open s l refl (eqb-true (line_end l) (length l) e)) (omega arith)
      go false e =
          let front = take (line_end l) l in
          let fits = short (foldl longer s front) (longer_gateway front s) in
          rw (printed_line s l refl (eqb-false (line_end l) (length l) e)) (omega arith)

  -- nor what is printed at the end
  pub last_whole : (l : List ℕ) → place_after size 0 (length (last_of s l)) ≡ length (last_of s l)
  unfolding last_of
  last_whole [] = omega arith
  last_whole (b ∷ l) = let fits = short s refl in omega arith
