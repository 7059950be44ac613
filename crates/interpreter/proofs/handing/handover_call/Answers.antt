-- `interpreter::handing::handover_call` meets its contract: bad, or the bytes gathered are read.
use Rattle.std.proofs.Common.{refl, ◌∙◌, ap, is_ok, arith}
use Rattle.interpreter.specs.Keeping.{handover_call}
use Rattle.interpreter.proofs.Gatherings.{gathered_read, runs_bad, runs_using}
use Rattle.interpreter.proofs.handing.handover_call.Goals as goal

pub returns-in_err-gather : goal.returns-in_err-gather
unfolding handover_call
returns-in_err-gather c = grind (arith, runs_bad)

pub returns : goal.returns
unfolding handover_call
returns c = let a = c.args in
    let firmware = c.read_u16-firmware.ensures in
    let protocol = c.read_u16-protocol.ensures in
    let count = c.read_u16.ensures in
    let gathers = rw (count.1, protocol.1, firmware.1) at c.gather.ensures in
    let bytes = c.bytes.ensures ∙ gathered_read gathers in
    runs_using gathers a.gateway.now _ a.text.now (ap is_ok c.in_ok-gather.was) refl refl refl refl (rw (bytes, c.from-count.ensures, count.0, protocol.1, protocol.0, firmware.1, firmware.0) at c.handover_done.ensures)
