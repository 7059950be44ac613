-- Numbers, and the fields of devices with their serial lines, as an answer shows them (ours: docs/REPLAY.md).
use Rattle.std.specs.Prelude.{ℕ, List, [], ◌∷◌, ◌++◌}
use Rattle.text.specs.Place.{space}
use Rattle.text.specs.Decimal.{decimal}
use Rattle.text.specs.Texts.{texts}
use Rattle.text.specs.Words.{mode_word, cool_word, slab_word, fan_word}
use Rattle.devices.specs.declared.field.Setting.{Setting}
use Rattle.devices.specs.declared.field.Setting.TheVariants.{Mode, Cool, Slab, Fan}
use Rattle.devices.specs.declared.field.Field.{Field}
use Rattle.devices.specs.Field.{setting}
use Rattle.updates.specs.declared.line.Line.{Line}
use Rattle.updates.specs.declared.update.LineField.{LineField}
use Rattle.updates.specs.Line.{line_of}
use Rattle.transcript.specs.Lines.{line_text}

-- (ours) a number after a word: a space and its digits
unfoldable pub number_text : ℕ → List ℕ
number_text n = space ∷ decimal n

-- (ours) numbers after a word
abbrev pub numbers_text : List ℕ → List ℕ
numbers_text = texts number_text

-- (ours) WORD ADDRESS STATE
unfoldable pub stated_text : List ℕ → ℕ → ℕ → List ℕ
stated_text word address state = word ++ number_text address ++ number_text state

-- (ours) mode ADDRESS, or cool, slab or fan and ADDRESS STATE
abbrev pub setting_text : ℕ → Setting → List ℕ
setting_text address Mode = mode_word ++ number_text address
setting_text address (Cool s) = stated_text cool_word address s
setting_text address (Slab s) = stated_text slab_word address s
setting_text address (Fan s) = stated_text fan_word address s

-- (ours) a FIELD as a script writes it
abbrev pub field_text : Field → List ℕ
field_text f = setting_text f.address (setting f)

-- (02, M-106) LINE FIELD: a field whose update waits or waited, after the serial line that asked for it
unfoldable pub line_field_text : Line → Field → List ℕ
line_field_text l f = line_text l ++ space ∷ field_text f

-- (02, M-106) that of a field stored with the number of its serial line
abbrev pub named_text : LineField → List ℕ
named_text f = line_field_text (line_of f.line) f.field

-- (ours) the byte "," after a field that another follows
abbrev pub comma : ℕ
comma = 44

-- (ours) a field after another: ", LINE FIELD"
unfoldable pub next_text : LineField → List ℕ
next_text f = comma ∷ space ∷ named_text f

-- (ours) LINE FIELD, LINE FIELD, ..
abbrev pub fields_text : List LineField → List ℕ
fields_text [] = []
fields_text (f ∷ l) = named_text f ++ texts next_text l
