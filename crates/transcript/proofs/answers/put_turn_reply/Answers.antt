-- `transcript::answers::put_turn_reply` meets its contract: its three parts stand one after the other.
use Rattle.text.proofs.Places.{puts_then}
use Rattle.transcript.specs.Answers.{turn_reply_text}
use Rattle.transcript.proofs.answers.put_turn_reply.Goals as goal

pub returns : goal.returns
unfolding turn_reply_text
returns c =
    puts_then (puts_then c.put.ensures c.put_line.ensures) c.put_frame.ensures
