-- `tpck::writer::Front::put_all` meets its contract: what is written so far is the stuffing of the bytes passed.
use Rattle.std.proofs.Common.{◌≡◌, take}
use Rattle.tpck.specs.Frame.{stuffed}
use Rattle.tpck.specs.Write.{Wrote}
use Rattle.tpck.proofs.writer.Front.put_all.Given as goal

abbrev pub invariant-loop-b : goal.invariant-loop-b
invariant-loop-b l = record {
  same_buffer : l.self.out.ghost_name ≡ l.initial.self.out.ghost_name;
  wrote : Wrote (stuffed (take l.b-index l.s)) l.initial.self.out.now l.initial.self.at l.self.out.now l.self.at;
}
