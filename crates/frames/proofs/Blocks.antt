-- What the monitor prints of blocks that come one after another is what it prints of the whole line. Assumes nothing.
use Rattle.std.proofs.Common.{◌≡◌, ℕ, List}
use mathlib.Core.List.{flatten}
use Rattle.text.specs.Blocks.{printed}
use Rattle.text.specs.Report.{carried_after, lines_of}
use Rattle.text.proofs.Reports.{report_of_blocks}
use Rattle.frames.specs.Report.{next, line_of}
use Rattle.frames.specs.Monitor.{at_first, monitored}

pub blocks_monitored : (blocks : List (List ℕ)) → printed (carried_after next) (lines_of next line_of) at_first blocks ≡ monitored (flatten blocks)
blocks_monitored = report_of_blocks next line_of at_first
