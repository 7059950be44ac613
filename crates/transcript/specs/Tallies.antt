-- The text of what a block answers (ours: docs/REPLAY.md, "The answers"): its counts, and its replies one behind the other.
use Rattle.std.specs.Prelude.{ℕ, List, ◌∷◌, ◌++◌, take, drop, Ok, Err}
use Rattle.text.specs.Place.{space}
use Rattle.text.specs.Event.{refused_word, reply_word, queued_word}
use Rattle.text.specs.Words.{block_word}
use Rattle.blocks.specs.declared.counts.Counts.{Counts}
use Rattle.blocks.specs.Block.{BlockAnswer, refusal_number}
use Rattle.transcript.specs.Words.{drops_word, body_word}
use Rattle.transcript.specs.Fields.{number_text, numbers_text}
use Rattle.transcript.specs.Answers.{last_text, frame_text}

-- (ours) the counts of some numbers after a word, and one number more after another
unfoldable pub tally_text : (word : List ℕ) → List ℕ → (last : List ℕ) → ℕ → List ℕ
tally_text word counts last n = word ++ numbers_text counts ++ last ++ number_text n

-- (02, M-100 and M-102) drops C3 C4 C5 C6 body TOTAL refused C7 .. C16 queued Q: how often each of the numbers 3 to 16 came up, 3 to 6
-- being the drops; the body bytes that the dropped packets had taken; how many updates were queued
unfoldable pub counts_text : Counts → List ℕ
counts_text c =
    tally_text (space ∷ drops_word) (take 4 c.numbers) (space ∷ body_word) c.body
    ++ tally_text (space ∷ refused_word) (drop 4 c.numbers) (space ∷ queued_word) c.queued

-- (02, M-100) block USED, the counts, reply WRITTEN BYTES: the replies are the first bytes of the area after the call
unfoldable pub used_text : (used written : ℕ) → Counts → (area : List ℕ) → List ℕ
used_text used written c area = block_word ++ number_text used ++ counts_text c ++ space ∷ reply_word ++ frame_text written area

-- (ours) that, or block refused 1
abbrev pub block_answer_text : BlockAnswer → Counts → (area : List ℕ) → List ℕ
block_answer_text (Ok used) c area = used_text used.bytes used.written c area
block_answer_text (Err e) c area = block_word ++ space ∷ refused_word ++ last_text (refusal_number e)
