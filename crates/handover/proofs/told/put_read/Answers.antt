-- `handover::told::put_read` meets its contract: what any gateway holds is short enough.
use Rattle.transcript.proofs.Sizes.{gateway_fits}
use Rattle.handover.proofs.Telling.{read_fits}
use Rattle.handover.proofs.told.put_read.Goals as goal

pub returns-clause-short : goal.returns-clause-short
returns-clause-short c = read_fits c.args.gateway (gateway_fits c.args.gateway _ c.well_formed.1.0)
