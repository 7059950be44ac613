-- `tpck::receiver::Receiver::escape` meets its contract: the body stays.
use Rattle.std.proofs.Common.{true, arith}
use Rattle.tpck.proofs.Changes.{kept_next}
use Rattle.tpck.proofs.receiver.Receiver.escape.Goals as goal

pub returns-clause-next : goal.returns-clause-next
returns-clause-next c = let r = c.args.self.now in kept_next r (omega arith) c.held-self.result c.held-self.ensures r.inside true
