-- `tpck::receiver::Receiver::end_of_frame` meets its contract: the body stays.
use Rattle.std.proofs.Common.{false, arith}
use Rattle.tpck.proofs.Changes.{kept_next}
use Rattle.tpck.proofs.receiver.Receiver.end_of_frame.Goals as goal

pub returns-clause-next : goal.returns-clause-next
returns-clause-next c = kept_next c.args.self.now (omega arith) c.held-len.result c.held-len.ensures false false
