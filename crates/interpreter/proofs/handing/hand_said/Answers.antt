-- `interpreter::handing::hand_said` meets its contract: the buffer that was lent is read for the answer.
use Rattle.text.proofs.Places.{puts_same}
use Rattle.interpreter.specs.Limits.{most_lent}
use Rattle.interpreter.proofs.Lent.{lent_is, hand_lent}
use Rattle.interpreter.proofs.handing.hand_said.Goals as goal

pub returns : goal.returns
returns c = let a = c.args in
    puts_same c.put_hand_answer.ensures (hand_lent a.room (lent_is a.room most_lent c.requires) a.gateway a.place c.hand-answer.ensures.answer c.hand-answer.ensures.buffer)
