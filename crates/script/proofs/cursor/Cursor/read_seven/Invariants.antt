-- `script::cursor::Cursor::read_seven` meets its contract: the values so far, and the cursor after them.
use Rattle.std.proofs.Common.{◌≡◌, length, take}
use Rattle.script.specs.Place.{place, moved}
use Rattle.script.specs.Reading.{values_read, after_values}
use Rattle.script.proofs.cursor.Cursor.read_seven.Given as goal

abbrev pub invariant-loop-i : goal.invariant-loop-i
invariant-loop-i l = (length l.values ≡ 7) × (take l.i l.values ≡ values_read l.i l.initial.self.line.now (place l.initial.self)) × (l.self ≡ moved l.initial.self (after_values l.i l.initial.self.line.now (place l.initial.self)))
