-- A line cut into blocks, in demand 3's words: any cutting gives what one byte call at a time gives. Assumes nothing.
use Prim.Native.Nat.{ℕ, ◌≤◌}
use mathlib.Core.Path.{◌≡◌, refl, sym, ◌∙◌, subst}
use mathlib.Core.Bool.{false}
use mathlib.Core.List.{List, [], ◌∷◌}
use lib.ListN.{length, take}
use Rattle.updates.specs.declared.line.Line.{Line}
use Rattle.gateway.specs.declared.gateway.Gateway.{Gateway}
use Rattle.gateway.specs.declared.answers.ByteAnswer.{ByteAnswer}
use Rattle.gateway.specs.Reply.{room}
use Rattle.gateway.specs.State.{Result}
use Rattle.gateway.specs.Byte.{byte}
use Rattle.gateway.specs.View.{view}
use Rattle.gateway.specs.Results.{fed}
use Rattle.blocks.specs.Counts.{counted_numbers, counted}
use Rattle.blocks.specs.Feed.{first, one_by_one}
use Rattle.blocks.specs.Cutting.{Cut, in_blocks}
use Rattle.blocks.proofs.Feeds.{byte_roomy}
use Rattle.blocks.proofs.Theorems.{any_cutting}
use Rattle.ledger.specs.Call.{Answer, run, gateway_after, calls_made}
use Rattle.ledger.specs.Cuts.{single_calls, counts_said, CutRight}
use Rattle.ledger.proofs.Blocks.{Says, Fed, fed_if, calls_length, said_numbers, said_queued, said_taken, said_replies, said_length}
use Rattle.ledger.proofs.Blocks.Says.{none}

-- the counts of a block are those of the answers
says_counts : {answers : List ByteAnswer} {replies : List ℕ} {said : List Answer} → Says answers replies said
    → counted answers ≡ counts_said said
unfolding counted
says_counts s =
    λ i. record { numbers = said_numbers s counted_numbers i; queued = sym (said_queued s) i; body = sym (said_taken s) i }

module _ (l : Line) (lent : List ℕ) (long : room ≤ length lent) where
  -- one byte at a time: with room for a reply it is no matter how much
  singles_fed : (g : Gateway) (bs : List ℕ) → Fed l g (single_calls l lent bs) (one_by_one g l bs)
  unfolding one_by_one gateway_after calls_made run
  singles_fed g [] = (refl, none)
  singles_fed g (b ∷ bs) =
      let x = byte (view g) l b (length lent) in
      let rest = one_by_one (fed g x).gateway l bs in
      subst (λ (y : Result ByteAnswer). Fed l g (single_calls l lent (b ∷ bs)) (first y (one_by_one (fed g y).gateway l bs)))
      (byte_roomy (view g) l b (length lent) long)
      (fed_if l false g b lent (single_calls l lent bs) rest (singles_fed (fed g x).gateway bs))

-- every cutting of every line gives what one byte call at a time gives
pub cut_right : (g : Gateway) (l : Line) (cuts : List Cut) (line lent : List ℕ) → CutRight g l cuts line lent
cut_right g l cuts line lent long =
    let n = (in_blocks g l cuts line).used in
    let calls = single_calls l lent (take n line) in
    let cut = any_cutting g l cuts line in
    let single = singles_fed l lent long g (take n line) in
    let used = sym cut.1 ∙ sym (said_length single.1) ∙ calls_length l g calls in
    let replies = sym (said_replies single.1) in
    cut.0 ∙ λ i. record { used = used i; written = replies i; counts = says_counts single.1 i; gateway = sym single.0 i }
