-- How long the text of a number, of a serial line and of a field is at most. Assumes nothing.
use Prim.Native.Nat.{ℕ, suc, ◌*◌, ◌^◌, ◌≤◌, ◌<◌}
use mathlib.Core.List.{List, [], ◌∷◌, ◌++◌}
use native.Mathlib.Omega.{arith}
use lib.ListN.{length, get_or, length-append}
use Rattle.text.specs.Place.{space, newline}
use Rattle.text.specs.Texts.{texts}
use Rattle.text.specs.Words.{mode_word, cool_word, slab_word, fan_word}
use Rattle.text.proofs.Lengths.{decimal_most, decimal_byte}
use Rattle.text.proofs.Texts.{texts_most}
use Rattle.devices.specs.declared.field.Setting.{Setting}
use Rattle.devices.specs.declared.field.Setting.TheVariants.{Mode, Cool, Slab, Fan}
use Rattle.devices.specs.declared.field.Field.{Field}
use Rattle.devices.specs.Field.{state_of, setting}
use Rattle.devices.proofs.Fields.{state_named}
use Rattle.updates.specs.declared.line.Line.{Line}
use Rattle.updates.specs.declared.line.Line.TheVariants.{Controller, Panel}
use Rattle.updates.specs.declared.update.LineField.{LineField}
use Rattle.updates.specs.Line.{line_of}
use Rattle.updates.specs.Update.{blank_named}
use Rattle.transcript.specs.Lines.{line_text}
use Rattle.transcript.specs.Fields.{number_text, numbers_text, stated_text, setting_text, field_text, line_field_text, named_text, next_text, fields_text}
use Rattle.transcript.specs.Answers.{last_text}

-- ---- numbers: of 64 bits, and of 8

pub number_most : (n : ℕ) → n < 2 ^ 64 → length (number_text n) ≤ 21
unfolding number_text
number_most n h = omega (arith, decimal_most n h)

pub small_most : (n : ℕ) → n < 256 → length (number_text n) ≤ 4
unfolding number_text
small_most n h = omega (arith, decimal_byte n h)

pub last_most : (n : ℕ) → n < 2 ^ 64 → length (last_text n) ≤ 22
unfolding last_text
last_most n h = omega (arith, length-append (number_text n) (newline ∷ []), number_most n h)

pub small_last_most : (n : ℕ) → n < 256 → length (last_text n) ≤ 5
unfolding last_text
small_last_most n h = omega (arith, length-append (number_text n) (newline ∷ []), small_most n h)

-- each number of a list is below the bound
pub record Below (bound : ℕ) (l : List ℕ) : Type 0 where
  pub each : (i : ℕ) → get_or l i 0 < bound

pub numbers_most : (l : List ℕ) → Below (2 ^ 64) l → length (numbers_text l) ≤ length l * 21
numbers_most l h = texts_most number_text 21 0 l (λ i k. number_most (get_or l i 0) (h.each i))

pub values_most : (l : List ℕ) → Below 256 l → length (numbers_text l) ≤ length l * 4
values_most l h = texts_most number_text 4 0 l (λ i k. small_most (get_or l i 0) (h.each i))

-- ---- fields

-- a field's address has 64 bits at most, its state 8
pub record FieldFits (f : Field) : Type 0 where
  pub address : f.address < 2 ^ 64
  pub state : f.state < 256

stated_most : (word : List ℕ) (address state : ℕ) → length word ≤ 4 → address < 2 ^ 64 → state < 256 → length (stated_text word address state) ≤ 29
unfolding stated_text
stated_most word address state w h k =
    omega (arith, length-append (word ++ number_text address) (number_text state), length-append word (number_text address), number_most address h, small_most state k)

setting_most : (address : ℕ) (x : Setting) → address < 2 ^ 64 → state_of x < 256 → length (setting_text address x) ≤ 29
setting_most address Mode h k = omega (arith, length-append mode_word (number_text address), number_most address h)
setting_most address (Cool s) h k = stated_most cool_word address s (omega arith) h k
setting_most address (Slab s) h k = stated_most slab_word address s (omega arith) h k
setting_most address (Fan s) h k = stated_most fan_word address s (omega arith) h k

field_most : (f : Field) → FieldFits f → length (field_text f) ≤ 29
field_most f h = setting_most f.address (setting f) h.address (omega (arith, state_named f, h.state))

-- ---- fields with their serial lines

pub line_most : (l : Line) → length (line_text l) ≤ 10
line_most Controller = omega arith
line_most Panel = omega arith

pub line_field_most : (l : Line) (f : Field) → FieldFits f → length (line_field_text l f) ≤ 40
unfolding line_field_text
line_field_most l f h = omega (arith, length-append (line_text l) (space ∷ field_text f), line_most l, field_most f h)

named_most : (f : LineField) → FieldFits f.field → length (named_text f) ≤ 40
named_most f h = line_field_most (line_of f.line) f.field h

next_most : (f : LineField) → FieldFits f.field → length (next_text f) ≤ 42
unfolding next_text
next_most f h = omega (arith, named_most f h)

pub fields_most : (l : List LineField) → ((i : ℕ) → i < length l → FieldFits (get_or l i blank_named).field) → length (fields_text l) ≤ length l * 42
fields_most [] h = omega arith
fields_most (f ∷ l) h =
    let rest = texts_most next_text 42 blank_named l (λ i k. next_most (get_or l i blank_named) (h (suc i) (omega arith))) in
    omega (arith, length-append (named_text f) (texts next_text l), named_most f (h 0 (omega arith)))
