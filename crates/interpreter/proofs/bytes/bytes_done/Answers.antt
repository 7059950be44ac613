-- `interpreter::bytes::bytes_done` meets its contract: what the bytes so far do.
use Rattle.std.proofs.Common.{get_or, refl, arith}
use Rattle.interpreter.proofs.Feeding.{bytes_none, bytes_more}
use Rattle.interpreter.proofs.bytes.bytes_done.Goals as goal

pub loop-place-init : goal.loop-place-init
loop-place-init c = let a = c.args in
    bytes_none a.on a.room a.gateway.now a.text.now

pub loop-place-preserved : goal.loop-place-preserved
loop-place-preserved c = let a = c.args in
    bytes_more a.on a.room a.gateway.now a.text.now a.bytes.now c.loop-place.place c.loop-place.invariant c.loop-place-test.true (omega arith) {b = get_or a.bytes.now c.loop-place.place 0} refl c.byte_done.ensures.next c.byte_done.ensures.said
