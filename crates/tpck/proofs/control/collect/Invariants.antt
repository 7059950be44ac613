-- `tpck::control::collect` meets its contract: the bytes passed did nothing, and the rest is still to be scanned.
use Rattle.std.proofs.Common.{◌≡◌, ◌≤◌, true, length}
use Rattle.tpck.specs.Scan.{scan, receiver_of}
use Rattle.tpck.proofs.Walks.{Rest}
use Rattle.tpck.proofs.Scans.{scan_after}
use Rattle.tpck.proofs.control.collect.Given as goal

abbrev pub invariant-loop-i : goal.invariant-loop-i
invariant-loop-i l = record {
  held : l.n ≤ 258;
  whole : length l.body ≡ 258;
  rest : Rest scan scan_after (receiver_of true l.escaped l.len l.initial.body) l.line (receiver_of true l.pending l.n l.body) l.i;
}
