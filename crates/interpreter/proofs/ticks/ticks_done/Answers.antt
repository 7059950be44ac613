-- `interpreter::ticks::ticks_done` meets its contract: what the ticks so far do.
use Rattle.std.proofs.Common.{arith}
use Rattle.interpreter.proofs.Ticking.{ticks_rest, ticks_none, ticks_more}
use Rattle.interpreter.proofs.ticks.ticks_done.Goals as goal

pub loop-i-init : goal.loop-i-init
loop-i-init c = ticks_none c.args.gateway.now c.args.text.now

pub returns-then-gateway-eq0 : goal.returns-then-gateway-eq0
returns-then-gateway-eq0 c = ticks_rest c.args.gateway.now c.loop-i.i c.args.n c.loop-i.invariant c.if-gateway-eq0.true (omega arith)

pub loop-i-preserved : goal.loop-i-preserved
loop-i-preserved c =
    ticks_more c.args.gateway.now c.args.text.now c.loop-i.i c.loop-i.invariant c.tick-ticked.ensures (rw c.from.ensures at c.put_tick_answer.ensures)
