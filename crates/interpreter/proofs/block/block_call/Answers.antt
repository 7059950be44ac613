-- `interpreter::block::block_call` meets its contract: bad, or the block is worked through with the bytes gathered.
use Rattle.std.proofs.Common.{refl, ◌∙◌, ap, is_ok, arith}
use Rattle.interpreter.specs.Keeping.{block_done, block_call}
use Rattle.interpreter.proofs.Gatherings.{gathered_read, runs_bad, runs_using}
use Rattle.interpreter.proofs.block.block_call.Goals as goal

pub returns-in_err-gather : goal.returns-in_err-gather
unfolding block_call
returns-in_err-gather c = grind (arith, runs_bad)

pub returns : goal.returns
unfolding block_call block_done
returns c = let a = c.args in
    let area = c.read_number-room.ensures.reads in
    let on = c.read_line-on.ensures in
    let gathers = rw (area.1, on.1) at c.gather.ensures in
    let bytes = c.bytes.ensures ∙ gathered_read gathers in
    runs_using gathers a.gateway.now _ a.text.now (ap is_ok c.in_ok-gather.was) refl refl refl refl (rw (bytes, area.0, on.1, on.0) at c.block_done.ensures)
