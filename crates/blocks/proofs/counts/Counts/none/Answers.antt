-- `blocks::counts::Counts::none` meets its contract: every count is 0.
use mathlib.Core.Path.{refl}
use Rattle.tpck.specs.Frame.{sum}
use Rattle.blocks.specs.Counts.{times, times_queued, total_taken, counted}
use Rattle.blocks.proofs.counts.Counts.none.Goals as goal

pub returns : goal.returns
unfolding counted sum times times_queued total_taken
returns c = refl
