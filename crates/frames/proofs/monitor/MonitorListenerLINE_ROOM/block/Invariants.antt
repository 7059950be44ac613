-- `frames::monitor::Monitor::block` meets its contract: the lines so far are those of the bytes used, and the offset is not moved yet.
use Rattle.std.proofs.Common.{◌≡◌}
use Rattle.text.proofs.Reports.{Used}
use Rattle.tpck.specs.Receive.{view}
use Rattle.frames.specs.Report.{next, line_of}
use Rattle.frames.specs.Monitor.{carried}
use Rattle.frames.proofs.monitor.MonitorListenerLINE_ROOM.block.Given as goal

abbrev pub invariant-loop-i : goal.invariant-loop-i
invariant-loop-i l =
    (l.self.offset ≡ l.initial.self.offset)
    × Used next line_of (carried l.initial.self) l.block 1024 l.initial.text l.text (view l.receiver) l.i
