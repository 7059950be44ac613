-- `transcript::state::put_rows` meets its contract: what is put so far are the lines of the rows passed.
use Rattle.text.proofs.Texts.{puts_none, puts_next, puts_all}
use Rattle.devices.specs.Table.{rows_of}
use Rattle.transcript.specs.State.{row_text}
use Rattle.transcript.proofs.state.put_rows.Goals as goal

pub loop-row-init : goal.loop-row-init
loop-row-init c = puts_none row_text c.take-row-items.result.now c.args.text.now

pub loop-row-preserved : goal.loop-row-preserved
loop-row-preserved c =
    puts_next row_text c.take-row-items.result.now c.loop-row.invariant _ c.loop-row-test.true c.put_row.ensures

pub returns : goal.returns
unfolding rows_of
returns c = rw (← c.take-row-items.ensures) (puts_all row_text c.take-row-items.result.now c.loop-row.invariant c.loop-row-test.false)
