-- How often each answer came up in a block (document 02, M-100), and how many body bytes its drops had taken (M-102).
use Rattle.std.specs.Prelude.{ℕ, ◌+◌, ◌-◌, Bool, true, false, cond, ◌&&◌, List, [], ◌∷◌, map, eqb, leb, length, get_or, set}
use Rattle.lists.specs.Filter.{filter}
use Rattle.tpck.specs.Frame.{sum}
use Rattle.gateway.specs.declared.answers.ByteAnswer.{ByteAnswer}
use Rattle.gateway.specs.declared.answers.ByteAnswer.TheVariants.{Nothing, Refused, Queued, Replied}
use Rattle.gateway.specs.Answers.{byte_number, body_taken}
use Rattle.blocks.specs.declared.counts.Counts.{Counts}

-- ---- an answer

-- (01) the number with which a byte is refused; (ours) 0 where it is not
abbrev pub number_in : ByteAnswer → ℕ
number_in Nothing = 0
number_in (Refused e) = byte_number e
number_in (Queued n) = 0
number_in (Replied n) = 0

-- (01) "queued": an update was queued
abbrev pub is_queued : ByteAnswer → Bool
is_queued Nothing = false
is_queued (Refused e) = false
is_queued (Queued n) = true
is_queued (Replied n) = false

-- (02, M-102) the body bytes that a dropped packet had taken; 0 where none is dropped
abbrev pub taken_in : ByteAnswer → ℕ
taken_in Nothing = 0
taken_in (Refused e) = body_taken e
taken_in (Queued n) = 0
taken_in (Replied n) = 0

-- ---- the answers of a block

-- (02, M-100) how often a number came up
unfoldable pub times : ℕ → List ByteAnswer → ℕ
times k answers = length (filter (λ a. eqb (number_in a) k) answers)

-- (02, M-100) how often "queued" came up
unfoldable pub times_queued : List ByteAnswer → ℕ
times_queued answers = length (filter is_queued answers)

-- (02, M-102) "the block call as a total": the body bytes of all its drops
unfoldable pub total_taken : List ByteAnswer → ℕ
total_taken answers = sum (map taken_in answers)

-- (02, M-100) the numbers that are counted: 3 to 16
abbrev pub counted_numbers : List ℕ
counted_numbers = 3 ∷ 4 ∷ 5 ∷ 6 ∷ 7 ∷ 8 ∷ 9 ∷ 10 ∷ 11 ∷ 12 ∷ 13 ∷ 14 ∷ 15 ∷ 16 ∷ []

-- (02, M-100) the counts of some answers
unfoldable pub counted : List ByteAnswer → Counts
counted answers = record { numbers = map (λ k. times k answers) counted_numbers; queued = times_queued answers; body = total_taken answers }

-- ---- as the code counts

-- (ours) 1 where it is so, else 0
abbrev pub one : Bool → ℕ
one b = cond b 1 0

-- (ours) one more of a number, in the counts of 3 to 16; any other number is not counted
unfoldable pub noted : ℕ → List ℕ → List ℕ
noted k counts = cond (leb 3 k && leb k 16) (set counts (k - 3) (get_or counts (k - 3) 0 + 1)) counts

-- (ours) the counts with one answer more
abbrev pub with : ByteAnswer → Counts → Counts
with a c = record { numbers = noted (number_in a) c.numbers; queued = c.queued + one (is_queued a); body = c.body + taken_in a }
