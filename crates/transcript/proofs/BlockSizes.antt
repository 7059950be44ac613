-- What every block of a gateway comes to has the sizes that bound its line. Assumes nothing.
use Prim.Native.Nat.{ℕ, suc, ◌+◌, ◌-◌, ◌*◌, ◌^◌, ◌≤◌, ◌<◌}
use mathlib.Core.Path.{◌≡◌, refl, sym, subst}
use mathlib.Core.Bool.{Bool, true, false, cond}
use mathlib.Core.List.{List, [], ◌∷◌}
use native.Mathlib.Omega.{arith}
use lib.Dec.{ltb}
use lib.ListN.{length, take, length-take}
use Rattle.tpck.specs.Event.{is_drop}
use Rattle.tpck.specs.Frame.{sum}
use Rattle.tpck.specs.Receive as receive
use Rattle.updates.specs.declared.line.Line.{Line}
use Rattle.gateway.specs.declared.gateway.Gateway.{Gateway}
use Rattle.gateway.specs.declared.answers.ByteAnswer.{ByteAnswer}
use Rattle.gateway.specs.declared.answers.ByteAnswer.TheVariants.{Nothing, Refused, Queued, Replied}
use Rattle.gateway.specs.Answers.{byte_number}
use Rattle.gateway.specs.Lines.{receiver_of}
use Rattle.gateway.specs.State.{State, Result}
use Rattle.gateway.specs.Reply.{room}
use Rattle.gateway.specs.Taken.{TakenRight}
use Rattle.gateway.specs.Byte.{byte}
use Rattle.gateway.specs.View.{view}
use Rattle.gateway.specs.Results.{fed}
use Rattle.gateway.proofs.Parts.{view_put}
use Rattle.gateway.proofs.Taken.{taken_right, byte_adds}
use Rattle.blocks.specs.Counts.{taken_in, total_taken, counted}
use Rattle.blocks.specs.Feed.{Feed, unless_full, feed}
use Rattle.blocks.specs.Block.{most_used, feed_of, refused, blocked_by, block}
use Rattle.blocks.proofs.Feeds.{feed_within}
use Rattle.blocks.proofs.Noting.{numbers_length, numbers_few, queued_within}
use Rattle.blocks.proofs.Theorems.{feed_fits}
use Rattle.transcript.specs.Tallies.{block_answer_text}
use Rattle.transcript.proofs.BlockLengths.{CountsFit, short_most, block_most}

-- ---- body bytes taken by all drops

taken_by : (r : receive.State) (a : ByteAnswer) → TakenRight r a → taken_in a ≤ length r.body
taken_by r Nothing t = omega arith
taken_by r (Refused e) t = omega (arith, t, drop_or_none (is_drop (byte_number e)))
  where
    drop_or_none : (d : Bool) → cond d (length r.body) 0 ≤ length r.body
    drop_or_none true = omega arith
    drop_or_none false = omega arith
taken_by r (Queued n) t = omega arith
taken_by r (Replied n) t = omega arith

-- the body of a receiver, 258 bytes, and a byte more for each of a block
abbrev most_taken : ℕ
most_taken = 258 + most_used

none_taken : total_taken [] ≡ 0
unfolding total_taken sum
none_taken = refl

total_if : (full : Bool) (g : Gateway) (x : Result ByteAnswer) (rest : Feed) (k : ℕ) → taken_in x.answer ≤ most_taken
    → total_taken rest.answers ≤ most_taken * k → total_taken (unless_full full g x rest).answers ≤ most_taken * suc k
unfolding total_taken sum
total_if true g x rest k h i = omega arith
total_if false g x rest k h i = omega arith

module _ (l : Line) where
  -- how many body bytes the receiver of the line holds
  abbrev pub held : Gateway → ℕ
  held g = length (receiver_of (view g).receivers l).body

  byte_grows : (g : Gateway) (b n : ℕ) → held (fed g (byte (view g) l b n)).gateway ≤ suc (held g)
  byte_grows g b n =
      subst (λ (s : State). length (receiver_of s.receivers l).body ≤ suc (held g)) (sym (view_put g (byte (view g) l b n).effect)) (byte_adds (view g) l b n)

  total_most : (g : Gateway) (n : ℕ) (bs : List ℕ) → held g + length bs ≤ most_taken → total_taken (feed g l n bs).answers ≤ most_taken * length bs
  unfolding feed
  total_most g n [] h = omega (arith, none_taken)
  total_most g n (b ∷ bs) h =
      let x = byte (view g) l b n in
      let after = (fed g x).gateway in
      let m = n - length x.reply in
      let few = taken_by (receiver_of (view g).receivers l) x.answer (taken_right (view g) l b n) in
      let grows = byte_grows g b n in
      total_if (ltb n room) g x (feed after l m bs) (length bs) (omega arith) (total_most after m bs (omega arith))

  -- ---- the counts, and the line

  counts_fit : (g : Gateway) (bytes : List ℕ) (n : ℕ) → held g ≤ 258 → CountsFit (counted (feed_of g l bytes n).answers)
  unfolding counted
  counts_fit g bytes n h =
      let part = take most_used bytes in
      let answers = (feed g l n part).answers in
      let few : length part ≤ most_used = omega (arith, length-take most_used bytes) in
      let used = feed_within l g n part in
      let c = counted answers in
      let total = total_most g n part (omega arith) in
      record {
        fourteen = numbers_length c answers refl;
        numbers = record { each = λ i. omega (arith, numbers_few c answers refl (length answers) (omega arith) i) };
        queued = omega (arith, queued_within c answers refl);
        body = omega arith;
      }

  -- the line of every block has at most 416 bytes, and three for each byte of its area
  pub block_line_most : (g : Gateway) (bytes : List ℕ) (n : ℕ) (area : List ℕ) → held g ≤ 258 → n < 2 ^ 64
      → length (block_answer_text (block g l bytes n).answer (block g l bytes n).counts area) ≤ 416 + 3 * n
  unfolding block
  block_line_most g bytes n area h k = go (ltb n room)
    where
      go : (short : Bool) → let r = cond short (refused g) (blocked_by (feed_of g l bytes n)) in length (block_answer_text r.answer r.counts area) ≤ 416 + 3 * n
      go true = omega (arith, short_most (counted []) area)
      go false =
          let x = feed_of g l bytes n in
          let part = take most_used bytes in
          let used = feed_within l g n part in
          let fits = feed_fits l g n part in
          let few : length x.answers < 2 ^ 64 = omega (arith, length-take most_used bytes) in
          let a = (blocked_by x).answer in
          omega (arith, block_most a (counted x.answers) area few (omega arith) (counts_fit g bytes n h))
