-- What the monitor of the code keeps from block to block, and what it prints of a line from the first byte on (ours).
use Rattle.std.specs.Prelude.{ℕ, List}
use Rattle.text.specs.Report.{Carried, lines_of}
use Rattle.tpck.specs.Receive.{State, view, fresh}
use Rattle.frames.specs.Report.{next, line_of}
use Rattle.frames.specs.declared.monitor.Monitor.{Monitor}

-- (ours) what the struct keeps
abbrev pub carried : Monitor → Carried State
carried m = record { state = view m.receiver; offset = m.offset }

-- (ours) at first: a fresh receiver, and offsets count from 0
abbrev pub at_first : Carried State
at_first = record { state = view fresh; offset = 0 }

-- (ours) all lines of an input
abbrev pub monitored : List ℕ → List ℕ
monitored bytes = lines_of next line_of at_first bytes
