-- `interpreter::calls::write_said` meets its contract: the buffer that was lent is read for the answer.
use Rattle.text.proofs.Places.{puts_same}
use Rattle.interpreter.specs.Limits.{most_lent}
use Rattle.interpreter.proofs.Lent.{lent_is, write_lent}
use Rattle.interpreter.proofs.calls.write_said.Goals as goal

pub returns : goal.returns
returns c = let a = c.args in
    puts_same c.put_written.ensures (write_lent a.room (lent_is a.room most_lent c.requires) a.ptype a.bytes.now c.write-answer.ensures.answer c.write-answer.ensures.buffer)
