-- `interpreter::block::block_done` meets its contract: the area that was lent is read for the answer.
use Rattle.text.proofs.Places.{puts_same}
use Rattle.interpreter.specs.Limits.{most_area}
use Rattle.interpreter.proofs.Lent.{lent_is, block_lent}
use Rattle.interpreter.proofs.block.block_done.Goals as goal

pub returns : goal.returns
returns c = let a = c.args in
    let said = block_lent a.room (lent_is a.room most_area c.requires) a.gateway.now a.on a.bytes.now c.block-blocked.ensures.blocked c.block-blocked.ensures.area in
    (said.0, puts_same c.put_block_answer.ensures said.1)
