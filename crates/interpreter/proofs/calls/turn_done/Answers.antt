-- `interpreter::calls::turn_done` meets its contract: the buffer that was lent is read for the answer.
use Rattle.text.proofs.Places.{puts_same}
use Rattle.interpreter.specs.Limits.{most_lent}
use Rattle.interpreter.proofs.Lent.{lent_is, turn_lent}
use Rattle.interpreter.proofs.calls.turn_done.Goals as goal

pub returns : goal.returns
returns c = let a = c.args in
    let said = turn_lent a.room (lent_is a.room most_lent c.requires) a.gateway.now a.field a.heard c.turn-turned.ensures.answer c.turn-turned.ensures.buffer in
    (said.0, puts_same c.put_turn_answer.ensures said.1)
