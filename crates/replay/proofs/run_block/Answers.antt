-- `replay::run_block` meets its contract: the bytes that are left take the progress on to what the whole block does.
use Rattle.std.proofs.Common.{arith, ◌∙◌}
use Rattle.replay.specs.Progress.{view}
use Rattle.replay.proofs.Parts.{used_some, some_left, fewer_left, step_left}
use Rattle.replay.proofs.run_block.Goals as goal

pub loop-rest-smaller : goal.loop-rest-smaller
loop-rest-smaller c = let rest = c.loop-rest.rest.now in
    let n = c.part-used.result in
    let used = used_some rest (some_left rest c.loop-rest-test.ensures) in
    fewer_left rest n (omega (arith, c.part-used.ensures.used, used.0)) c.part-used.ensures.within

pub loop-rest-preserved : goal.loop-rest-preserved
loop-rest-preserved c = let l = c.loop-rest in
    let p = c.part-used in
    record {
      state =
          step_left (view l.progress) (view p.new.self) l.rest.now p.result (rw (← p.ensures.used) at p.ensures.state)
          ∙ l.invariant.state;
      rooms = p.ensures.rooms;
    }
