-- `transcript::state::put_updates` meets its contract: what is put so far are the lines of the updates passed.
use Rattle.text.proofs.Texts.{puts_none, puts_next, puts_all}
use Rattle.updates.specs.Queue.{waiting}
use Rattle.transcript.specs.State.{update_text}
use Rattle.transcript.proofs.state.put_updates.Goals as goal

pub loop-update-init : goal.loop-update-init
loop-update-init c = puts_none update_text c.take-update-items.result.now c.args.text.now

pub loop-update-preserved : goal.loop-update-preserved
loop-update-preserved c =
    puts_next update_text c.take-update-items.result.now c.loop-update.invariant _ c.loop-update-test.true c.put_update.ensures

pub returns : goal.returns
unfolding waiting
returns c = rw (← c.take-update-items.ensures) (puts_all update_text c.take-update-items.result.now c.loop-update.invariant c.loop-update-test.false)
