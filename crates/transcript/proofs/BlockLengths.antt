-- How long the line of a block is at most. Assumes nothing.
use Prim.Native.Nat.{ℕ, zero, suc, ◌+◌, ◌*◌, ◌^◌, ◌≤◌, ◌<◌}
use mathlib.Core.Path.{◌≡◌}
use mathlib.Core.List.{List, [], ◌∷◌, ◌++◌}
use Rattle.std.specs.Prelude.{Ok, Err}
use native.Mathlib.Omega.{arith}
use lib.ListN.{length, take, drop, get_or, length-append, length-take, length-drop}
use lib.Seq.{get_or-drop}
use Rattle.text.specs.Place.{space}
use Rattle.text.specs.Event.{refused_word, reply_word, queued_word}
use Rattle.text.specs.Words.{block_word}
use Rattle.blocks.specs.declared.counts.Counts.{Counts}
use Rattle.blocks.specs.declared.answers.BlockRefusal.TheVariants.{Short}
use Rattle.blocks.specs.Block.{BlockAnswer, used_in, written_in}
use Rattle.transcript.specs.Words.{drops_word, body_word}
use Rattle.transcript.specs.Fields.{number_text, numbers_text}
use Rattle.transcript.specs.Answers.{last_text, frame_text}
use Rattle.transcript.specs.Tallies.{tally_text, counts_text, used_text, block_answer_text}
use Rattle.transcript.proofs.FieldLengths.{Below, number_most, numbers_most, small_last_most}
use Rattle.transcript.proofs.AnswerLengths.{frame_most}

-- the counts of a block are fourteen numbers and two more, each of 64 bits at most
pub record CountsFit (c : Counts) : Type 0 where
  pub fourteen : length c.numbers ≡ 14
  pub numbers : Below (2 ^ 64) c.numbers
  pub queued : c.queued < 2 ^ 64
  pub body : c.body < 2 ^ 64

-- ---- the first numbers of a list, and the rest

first_each : (n : ℕ) (l : List ℕ) → ((i : ℕ) → get_or l i 0 < 2 ^ 64) → (i : ℕ) → get_or (take n l) i 0 < 2 ^ 64
first_each zero l h i = omega arith
first_each (suc n) [] h i = omega arith
first_each (suc n) (x ∷ l) h zero = h 0
first_each (suc n) (x ∷ l) h (suc i) = first_each n l (λ j. h (suc j)) i

first_below : (n : ℕ) (l : List ℕ) → Below (2 ^ 64) l → Below (2 ^ 64) (take n l)
first_below n l h = record { each = first_each n l h.each }

rest_below : (n : ℕ) (l : List ℕ) → Below (2 ^ 64) l → Below (2 ^ 64) (drop n l)
rest_below n l h = record { each = λ i. rw (get_or-drop n l i 0) (h.each (n + i)) }

-- ---- the line

tally_most : (word counts last : List ℕ) (n : ℕ) → Below (2 ^ 64) counts → n < 2 ^ 64 → length (tally_text word counts last n) ≤ length word + length counts * 21 + length last + 21
unfolding tally_text
tally_most word counts last n h k =
    let t0 = word ++ numbers_text counts in
    omega (
      arith,
      length-append (t0 ++ last) (number_text n),
      length-append t0 last,
      length-append word (numbers_text counts),
      numbers_most counts h,
      number_most n k,
    )

counts_most : (c : Counts) → CountsFit c → length (counts_text c) ≤ 362
unfolding counts_text
counts_most c h =
    let l = c.numbers in
    let t0 = tally_text (space ∷ drops_word) (take 4 l) (space ∷ body_word) c.body in
    let t1 = tally_text (space ∷ refused_word) (drop 4 l) (space ∷ queued_word) c.queued in
    omega (
      arith,
      h.fourteen,
      length-append t0 t1,
      tally_most (space ∷ drops_word) (take 4 l) (space ∷ body_word) c.body (first_below 4 l h.numbers) h.body,
      tally_most (space ∷ refused_word) (drop 4 l) (space ∷ queued_word) c.queued (rest_below 4 l h.numbers) h.queued,
      length-take 4 l,
      length-drop 4 l,
    )

used_most : (used written : ℕ) (c : Counts) (area : List ℕ) → used < 2 ^ 64 → written < 2 ^ 64 → CountsFit c → length (used_text used written c area) ≤ 416 + 3 * written
unfolding used_text
used_most used written c area h k f =
    let t0 = block_word ++ number_text used in
    let t1 = t0 ++ counts_text c in
    let t2 = t1 ++ space ∷ reply_word in
    omega (
      arith,
      length-append t2 (frame_text written area),
      length-append t1 (space ∷ reply_word),
      length-append t0 (counts_text c),
      length-append block_word (number_text used),
      number_most used h,
      counts_most c f,
      frame_most written area k,
    )

pub short_most : (c : Counts) (area : List ℕ) → length (block_answer_text (Err Short) c area) ≤ 18
short_most c area = omega (arith, length-append (block_word ++ space ∷ refused_word) (last_text 1), small_last_most 1 (omega arith))

-- 416 bytes, and three for each byte of its replies
pub block_most : (a : BlockAnswer) (c : Counts) (area : List ℕ) → used_in a < 2 ^ 64 → written_in a < 2 ^ 64 → CountsFit c → length (block_answer_text a c area) ≤ 416 + 3 * written_in a
block_most (Err Short) c area h k f = omega (arith, short_most c area)
block_most (Ok used) c area h k f = used_most used.bytes used.written c area h k f
