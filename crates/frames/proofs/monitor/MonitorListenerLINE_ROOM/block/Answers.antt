-- `frames::monitor::Monitor::block` meets its contract: the lines so far are those of the bytes used.
use Rattle.std.proofs.Common.{◌+◌, ◌%◌, ◌^◌, length, get_or, refl, ap, arith}
use Rattle.text.proofs.Reports.{used_none, used_one, used_all}
use Rattle.frames.proofs.Answers.{next_is, line_is}
use Rattle.frames.proofs.monitor.MonitorListenerLINE_ROOM.block.Goals as goal

pub loop-i-init : goal.loop-i-init
loop-i-init c = (refl, used_none c.args.text.now)

pub loop-i-preserved : goal.loop-i-preserved
loop-i-preserved c = let l = c.loop-i in
    let r = l.receiver in
    let b = get_or c.args.block.now l.i 0 in
    let x = c.receive-received.result in
    let received = c.receive-received.ensures in
    let line = line_is r b x received _ _ (ap (λ offset. (offset + l.i) % 2 ^ 64) l.invariant.0) in
    (l.invariant.0, used_one l.invariant.1 b refl (omega arith) (next_is r b x received) line c.event_line.ensures.line c.event_line.ensures.short)

pub returns : goal.returns
returns c = let l = c.loop-i in
    let all = used_all l.invariant.1 (omega arith) (ap (λ offset. (offset + length c.args.block.now) % 2 ^ 64) l.invariant.0) in
    record { after = all.0; lines = all.1.0; short = all.1.1 }
