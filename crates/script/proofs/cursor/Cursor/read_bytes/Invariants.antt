-- `script::cursor::Cursor::read_bytes` meets its contract: the bytes so far, and the words that are left.
use Rattle.std.proofs.Common.{◌-◌, length}
use Rattle.script.proofs.Readings.{Gathered}
use Rattle.script.proofs.cursor.Cursor.read_bytes.Given as goal

abbrev pub invariant-loop-word : goal.invariant-loop-word
invariant-loop-word l = Gathered l.fn.self l.initial.bytes l.bytes l.self

abbrev pub decreases-loop-word : goal.decreases-loop-word
decreases-loop-word l = length l.self.line.now - l.self.at
