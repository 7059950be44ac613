-- A line read word by word (ours: docs/REPLAY.md). A place is that after the last word, with whether every word so far was good: once
-- bad it stays bad.
use Rattle.std.specs.Prelude.{ℕ, zero, suc, min, Bool, true, false, cond, ◌&&◌, List, [], ◌∷◌, ◌++◌, eqb, length, Option, Some, None, Result, Ok, Err}
use Rattle.lists.specs.Filter.{every}
use Rattle.script.specs.declared.words.Word.{Word}
use Rattle.script.specs.declared.names.Call.{Call}
use Rattle.script.specs.Words.{next_word, word_bytes}
use Rattle.script.specs.Place.{Place, Read, Reader}
use Rattle.script.specs.Numbers.{number_in, byte_in}
use Rattle.script.specs.Names.{first_call}

-- (ours) the bytes of the next word
abbrev pub word_from : List ℕ → Place → List ℕ
word_from l c = word_bytes l (next_word l c.at)

-- (ours) after the next word, which is good
abbrev pub after_word : List ℕ → Place → Place
after_word l c = record { at = (next_word l c.at).end; good = c.good }

-- (ours) a line whose words are not all good
abbrev pub spoilt : Place → Place
spoilt c = record { at = c.at; good = false }

-- (ours) no word is left: the next one begins and ends at the same place
abbrev pub is_none : Word → Bool
is_none w = eqb w.start w.end

-- (ours) the bytes of the next word, none where no word is left
abbrev pub word_read : Reader (List ℕ)
word_read l c = record { value = word_from l c; next = after_word l c }

-- (ours) a line is good where all its words are good and none is left
unfoldable pub ended : List ℕ → Place → Bool
ended l c = c.good && is_none (next_word l c.at)

-- (ours) the call that the next word names
abbrev pub call_read : Reader (Option Call)
call_read l c = record { value = first_call (word_from l c); next = after_word l c }

-- ---- numbers

-- (ours) by what the word writes: its number, or 0 and the line is bad
abbrev pub number_read : Place → Option ℕ → Read ℕ
number_read after (Some v) = record { value = v; next = after }
number_read after None = record { value = 0; next = spoilt after }

-- (ours) the number of the next word, which is at most `most`
unfoldable pub read_number : ℕ → Reader ℕ
read_number most l c = number_read (after_word l c) (number_in most (word_from l c))

-- (ours) after n values of a byte each
unfoldable pub after_values : ℕ → List ℕ → Place → Place
after_values zero l c = c
after_values (suc n) l c = (read_number 255 l (after_values n l c)).next

-- (ours) n values of a byte each, one after the other
unfoldable pub values_read : ℕ → List ℕ → Place → List ℕ
values_read zero l c = []
values_read (suc n) l c = values_read n l c ++ (read_number 255 l (after_values n l c)).value ∷ []

-- (ours) a value for each of the seven states
unfoldable pub read_seven : Reader (List ℕ)
read_seven l c = record { value = values_read 7 l c; next = after_values 7 l c }

-- ---- bytes up to the line's end

-- (ours) the words from a place on, at most k
unfoldable pub words_within : ℕ → List ℕ → ℕ → List (List ℕ)
words_within zero l at = []
words_within (suc k) l at = cond (is_none (next_word l at)) [] (word_bytes l (next_word l at) ∷ words_within k l (next_word l at).end)

-- (ours) all words from a place on: a line has no more words than bytes
unfoldable pub words_from : List ℕ → ℕ → List (List ℕ)
words_from l at = words_within (length l) l at

-- (ours) a byte before others; none, also of those after, where the word writes no byte
abbrev pub before : Option ℕ → List ℕ → List ℕ
before (Some b) bytes = b ∷ bytes
before None bytes = []

-- (ours) the bytes that words write, up to the first word that writes none
unfoldable pub bytes_in : List (List ℕ) → List ℕ
bytes_in [] = []
bytes_in (w ∷ ws) = before (byte_in w) (bytes_in ws)

-- (ours) the word is a number
abbrev pub is_value : Option ℕ → Bool
is_value (Some v) = true
is_value None = false

-- (ours) the word writes a byte
abbrev pub is_byte : List ℕ → Bool
is_byte w = is_value (byte_in w)

-- (ours) the bytes after a place, as they are put into the buffer
unfoldable pub bytes_after : List ℕ → Place → List ℕ
bytes_after l c = bytes_in (words_from l c.at)

-- (ours) a number that is good or bad
abbrev pub counted : (good : Bool) → ℕ → Result ℕ ℕ
counted true n = Ok n
counted false n = Err n

-- (ours) with a buffer of this size: how many bytes stand in it, those that do not fit being left out, and bad where a word before them
-- was; bad, and none, where one word writes no byte
unfoldable pub read_bytes : ℕ → List ℕ → Place → Result ℕ ℕ
read_bytes size l c = cond (every is_byte (words_from l c.at)) (counted c.good (min (length (bytes_after l c)) size)) (Err 0)
