-- `replay::progress::bounded` meets its contract: a gateway of any value has the sizes that bound what a line prints.
use Rattle.transcript.proofs.Sizes.{gateway_fits}
use Rattle.replay.proofs.PartSizes.{line_short}
use Rattle.replay.proofs.progress.bounded.Goals as goal

pub returns : goal.returns
returns c = line_short c.args.gateway (gateway_fits c.args.gateway _ c.well_formed.0)
