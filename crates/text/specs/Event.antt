-- The front of a line that tells an event (01, "The listing program"), the line of nothing but that, the line of a drop, and the words of
-- events.
use Rattle.std.specs.Prelude.{ℕ, List, [], ◌∷◌, ◌++◌}
use Rattle.text.specs.Place.{space, newline}
use Rattle.text.specs.Decimal.{decimal}

-- (01) the offset of the byte that caused it, the word, and a number
unfoldable pub event_text : ℕ → List ℕ → ℕ → List ℕ
event_text offset word number = decimal offset ++ space ∷ word ++ space ∷ decimal number

-- (01) a line of these three
unfoldable pub event_line : ℕ → List ℕ → ℕ → List ℕ
event_line offset word number = event_text offset word number ++ newline ∷ []

-- (01) the word "drop"
abbrev pub drop_word : List ℕ
drop_word = 100 ∷ 114 ∷ 111 ∷ 112 ∷ []

-- (01; 02, M-102) the line of a dropped packet: OFFSET drop N BODY, with the number of body bytes taken since its SOF
unfoldable pub drop_line : (offset number taken : ℕ) → List ℕ
drop_line offset number taken = event_text offset drop_word number ++ space ∷ decimal taken ++ newline ∷ []

-- (01) the word "refused"
abbrev pub refused_word : List ℕ
refused_word = 114 ∷ 101 ∷ 102 ∷ 117 ∷ 115 ∷ 101 ∷ 100 ∷ []

-- (01) the word "reply"
abbrev pub reply_word : List ℕ
reply_word = 114 ∷ 101 ∷ 112 ∷ 108 ∷ 121 ∷ []

-- (01) the word "queued"
abbrev pub queued_word : List ℕ
queued_word = 113 ∷ 117 ∷ 101 ∷ 117 ∷ 101 ∷ 100 ∷ []
