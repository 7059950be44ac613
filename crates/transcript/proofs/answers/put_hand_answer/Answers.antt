-- `transcript::answers::put_hand_answer` meets its contract: the line goes by the answer.
use Rattle.text.proofs.Places.{puts_then}
use Rattle.transcript.proofs.answers.put_hand_answer.Goals as goal

pub returns-in-Ok : goal.returns-in-Ok
returns-in-Ok c =
    rw c.in-Ok.is (puts_then c.put.ensures c.put_frame.ensures)
