-- `console::running::run` meets its contract: what is printed are the lines of what is heard.
use Rattle.std.proofs.Common.{◌≡◌, ◌*◌, ◌≤◌, length, take, ◌∙◌, arith, length-take, mul-le-mul_right}
use Rattle.text.proofs.Places.{puts_whole}
use Rattle.console.proofs.Hearing.{heard_more}
use Rattle.console.proofs.running.run.Goals as goal

pub loop-preserved : goal.loop-preserved
loop-preserved g c = let i = c.loop.invariant in
    let law = g.met.L.Listener.both in
    let part = take c.in_ok-n.n c.read.new.buf in
    let long : length c.read.new.buf ≡ g.row.BLOCK = c.read.auto.buf ∙ i.block_long in
    let few : length part ≤ g.row.BLOCK = omega (arith, long, length-take c.in_ok-n.n c.read.new.buf) in
    let large : length part * g.row.ROOM ≤ length c.loop.room = rw (c.loop.auto.room, i.room_long) (mul-le-mul_right g.row.ROOM few) in
    let whole = puts_whole c.new-text.ensures.front c.block.ensures.lines (omega (arith, c.block.ensures.short, large)) in
    record {
      block_long = long;
      room_long = i.room_long;
      heard = heard_more i.heard part (λ ys. law c.loop.listener c.block.new.self part ys c.block.ensures.after) c.in_ok-n.ensures.bytes.0 (rw (c.as_bytes.ensures ∙ whole) at c.in_ok-write_all.ensures.bytes);
    }
