-- `replay::progress::Progress::end_line` meets its contract: the answers of the line, or that it is bad.
use Rattle.std.proofs.Common.{ap, [], false}
use Rattle.replay.specs.Progress.{State, line_ended}
use Rattle.replay.proofs.progress.Progress.end_line.Goals as goal

pub returns-clause-state : goal.returns-clause-state
unfolding line_ended
returns-clause-state c =
    ap (λ (s : State). record s { kept = []; over = false }) c.run.ensures.ends.state
