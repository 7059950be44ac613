-- `interpreter::bytes::byte_done` meets its contract: the buffer that was lent is read for the answer.
use Rattle.text.proofs.Places.{puts_same}
use Rattle.interpreter.specs.Limits.{most_lent}
use Rattle.interpreter.proofs.Lent.{lent_is, byte_lent}
use Rattle.interpreter.proofs.bytes.byte_done.Goals as goal

pub returns-clause-said : goal.returns-clause-said
returns-clause-said c = let a = c.args in
    puts_same c.put_byte_answer.ensures (byte_lent a.room (lent_is a.room most_lent c.requires) a.gateway.now a.on a.place a.b c.byte-fed.ensures.answer c.byte-fed.ensures.buffer)
