-- `tpck::writer::measure` meets its contract: escapes and sum so far are those of the bytes passed.
use Rattle.std.proofs.Common.{◌≡◌, ◌+◌, ◌≤◌, ◌∷◌, length, take}
use Rattle.tpck.specs.Frame.{stuffed, checksum}
use Rattle.tpck.proofs.writer.measure.Given as goal

abbrev pub invariant-loop-b : goal.invariant-loop-b
invariant-loop-b l = record {
  few : l.count ≤ l.b-index;
  escapes : l.count + l.b-index ≡ length (stuffed (take l.b-index l.s));
  sum : l.sum ≡ checksum (l.start ∷ take l.b-index l.s);
}
