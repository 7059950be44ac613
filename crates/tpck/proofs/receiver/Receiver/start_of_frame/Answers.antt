-- `tpck::receiver::Receiver::start_of_frame` meets its contract: the body is empty.
use Rattle.std.proofs.Common.{refl}
use Rattle.lists.specs.Overlay.{overlay}
use Rattle.tpck.proofs.receiver.Receiver.start_of_frame.Goals as goal

pub returns-clause-next : goal.returns-clause-next
unfolding overlay
returns-clause-next c = refl
