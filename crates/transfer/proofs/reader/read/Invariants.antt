-- `transfer::reader::read` meets its contract: the answer for all bytes is the answer for those not passed.
use mathlib.Core.Path.{◌≡◌}
use lib.ListN.{drop}
use Rattle.transfer.specs.Reading.{reading, read}
use Rattle.transfer.proofs.reader.read.Given as goal

abbrev pub invariant-loop-i : goal.invariant-loop-i
invariant-loop-i l = read l.firmware l.protocol l.count l.bytes ≡ reading l.firmware l.protocol l.count l.reader (drop l.i l.bytes) l.i
