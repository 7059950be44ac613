-- The arguments of a line that are more than a number (ours: docs/REPLAY.md): a serial line, a row, a field, what a turn
-- brings, and a date.
use Rattle.std.specs.Prelude.{ℕ, Bool, true, false, cond, List, [], ◌∷◌, Option, Some, None}
use Rattle.devices.specs.declared.row.Row.{Row}
use Rattle.devices.specs.declared.field.Field.{Field}
use Rattle.devices.specs.declared.field.Setting.{Setting}
use Rattle.devices.specs.declared.field.Setting.TheVariants as setting
use Rattle.devices.specs.Field.{field_of}
use Rattle.dates.specs.declared.date.Date.{Date}
use Rattle.dates.specs.Date.{date}
use Rattle.updates.specs.declared.line.Line.{Line}
use Rattle.updates.specs.declared.line.Line.TheVariants as line
use Rattle.text.specs.Words.{date_word}
use Rattle.script.specs.declared.names.SettingName.{SettingName}
use Rattle.script.specs.declared.names.SettingName.TheVariants.{Mode, Cool, Slab, Fan}
use Rattle.lists.specs.Equal.{equal}
use Rattle.script.specs.Place.{Place, Read, Reader}
use Rattle.script.specs.Names.{setting_named, line_named}
use Rattle.script.specs.Reading.{word_from, after_word, spoilt, read_number, read_seven}

-- (02, M-106) by what the next word names; (ours) where it names no line, the line is left out: it is the controller's, and the word
-- is the next argument's
abbrev pub line_if : Option Line → List ℕ → Place → Read Line
line_if (Some on) l c = record { value = on; next = after_word l c }
line_if None l c = record { value = line.Controller; next = c }

-- (02, M-106) the serial line, `controller` or `panel`
unfoldable pub read_line : Reader Line
read_line l c = line_if (line_named (word_from l c)) l c

-- (ours) the 27 numbers of a row
unfoldable pub read_row : Reader Row
read_row l c =
    let address = read_number 65535 l c in
    let version = read_number 4294967295 l address.next in
    let mask = read_number 65535 l version.next in
    let mode = read_number 255 l mask.next in
    let state = read_number 255 l mode.next in
    let events = read_number 255 l state.next in
    let cool = read_seven l events.next in
    let slab = read_seven l cool.next in
    let fan = read_seven l slab.next in
    record {
      value =
          record {
            address = address.value;
            version = version.value;
            mask = mask.value;
            mode = mode.value;
            state = state.value;
            events = events.value;
            cool = cool.value;
            slab = slab.value;
            fan = fan.value;
          };
      next = fan.next;
    }

-- (ours) the setting that a name and a state say; the mode has no state
abbrev pub with_state : SettingName → ℕ → Setting
with_state Mode s = setting.Mode
with_state Cool s = setting.Cool s
with_state Slab s = setting.Slab s
with_state Fan s = setting.Fan s

-- (ours) a field with the state that was read after its address
abbrev pub stated : SettingName → ℕ → Read ℕ → Read Field
stated name address state = record { value = field_of address (with_state name state.value); next = state.next }

-- (ours) a field without a state
abbrev pub unstated : ℕ → Place → Read Field
unstated address next = record { value = field_of address setting.Mode; next = next }

-- (ours) after a setting's name stands the address and, but for the mode, the state; any other name is bad
abbrev pub field_named : Option SettingName → List ℕ → Place → Read ℕ → Read Field
field_named (Some Mode) l c address = unstated address.value address.next
field_named (Some Cool) l c address = stated Cool address.value (read_number 255 l address.next)
field_named (Some Slab) l c address = stated Slab address.value (read_number 255 l address.next)
field_named (Some Fan) l c address = stated Fan address.value (read_number 255 l address.next)
field_named None l c address = unstated address.value (spoilt c)

-- (ours) a field: the setting's name, the address and the state
unfoldable pub read_field : Reader Field
read_field l c = field_named (setting_named (word_from l c)) l (after_word l c) (read_number 65535 l (after_word l c))

-- (ours) "silence"
abbrev pub silence_word : List ℕ
silence_word = 115 ∷ 105 ∷ 108 ∷ 101 ∷ 110 ∷ 99 ∷ 101 ∷ []

-- (ours) a turn that brings a value
abbrev pub value_heard : Read ℕ → Read (Option ℕ)
value_heard n = record { value = Some n.value; next = n.next }

-- (ours) by whether the word is `silence`; a line that was bad before it stays bad
abbrev pub heard_if : Bool → List ℕ → Place → Read (Option ℕ)
heard_if true l c = record { value = None; next = after_word l c }
heard_if false l c = value_heard (read_number 255 l c)

-- (ours) what a turn brings: silence or a value
unfoldable pub read_heard : Reader (Option ℕ)
read_heard l c = heard_if (equal (word_from l c) silence_word) l c

-- (ours) after the word `date`; any other word is bad
unfoldable pub after_date : List ℕ → Place → Place
after_date l c = cond (equal (word_from l c) date_word) (after_word l c) (spoilt (after_word l c))

-- (ours) date YEAR MONTH DAY WEEKDAY HOUR MINUTE
unfoldable pub read_date : Reader Date
read_date l c =
    let year = read_number 65535 l (after_date l c) in
    let month = read_number 255 l year.next in
    let day = read_number 255 l month.next in
    let weekday = read_number 255 l day.next in
    let hour = read_number 255 l weekday.next in
    let minute = read_number 255 l hour.next in
    record { value = date year.value month.value day.value weekday.value hour.value minute.value; next = minute.next }
