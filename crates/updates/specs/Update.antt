-- An update as it waits: its line, its age, and when its time is over.
use Rattle.std.specs.Prelude.{ℕ, ◌+◌, Bool, not, leb}
use Rattle.devices.specs.declared.field.Field.{Field}
use Rattle.updates.specs.declared.line.Line.{Line}
use Rattle.updates.specs.declared.update.Update.{Update}
use Rattle.updates.specs.declared.update.LineField.{LineField}
use Rattle.updates.specs.Line.{line_of, same_line}

-- (000, 01) how many ticks an update waits at most: two minutes
abbrev pub lifetime : ℕ
lifetime = 120

-- (01) one tick older
abbrev pub older : Update → Update
older u = record { line = u.line; field = u.field; value = u.value; age = u.age + 1 }

-- (02, M-106) the line whose byte queued it
abbrev pub line_in : Update → Line
line_in u = line_of u.line

-- (02, M-106) a byte of the line queued it
unfoldable pub is_from : Line → Update → Bool
is_from l u = same_line l (line_in u)

-- (02, M-106) its field, with its line
abbrev pub named : Update → LineField
named u = record { line = u.line; field = u.field }

-- (01) its age has reached the lifetime; (ours, D-41) an age above it counts as well
abbrev pub old : Update → Bool
old u = leb lifetime u.age

-- (01) its age is under the lifetime: it waits on
abbrev pub young : Update → Bool
young u = not (old u)

-- (ours, D-44) what stands in a slot or a list where there is no field
abbrev pub blank_field : Field
blank_field = record { address = 0; kind = 0; state = 0 }

-- (ours, D-44) what stands in a list where there is no field with its line
abbrev pub blank_named : LineField
blank_named = record { line = 0; field = blank_field }

-- (ours, D-44) what stands in a slot where no update is
abbrev pub blank_update : Update
blank_update = record { line = 0; field = blank_field; value = 0; age = 0 }
