-- `updates::Queue::tick` meets its contract: the loop puts each update, one tick older, at the place after those that stay, or its
-- field into the list. The invariant: both are those of the updates passed so far.
use Prim.Native.Nat.{◌<◌, ◌≤◌}
use lib.ListN.{length, get_or}
use mathlib.Core.List.{List}
use mathlib.Core.Path.{ap}
use native.Mathlib.Omega.{arith}
use Rattle.std.proofs.Common.{rules}
use Rattle.updates.proofs.Slots.{used_most}
use Rattle.updates.proofs.Ticks.{passed_none, passed_old, passed_young, passed_all}
use Rattle.updates.specs.declared.update.Update.{Update}
use Rattle.updates.specs.Update.{blank_update}
use Rattle.updates.specs.Queue.{waiting}
use Rattle.updates.proofs.queue.Queue.tick.Goals.{then-update-ge-LAST_AGE, else-update-ge-LAST_AGE}
use Rattle.updates.proofs.queue.Queue.tick.Goals as goal

pub loop-update-init : goal.loop-update-init
loop-update-init c = rw c.blank-list.ensures (passed_none c.args.self)

pub bounds-list-left : goal.bounds-list-left
bounds-list-left c = omega (arith, used_most c.args.self (search rules), ap length c.waiting-update-items.ensures, c.loop-update.invariant.left_few)

pub bounds-slots-kept : goal.bounds-slots-kept
bounds-slots-kept c = omega (arith, used_most c.args.self (search rules), ap length c.waiting-update-items.ensures, c.loop-update.invariant.kept_few)

pub loop-update-preserved : goal.loop-update-preserved
loop-update-preserved c =
    let i = c.loop-update.update-index in
    let h : i < length (waiting c.args.self) = rw c.waiting-update-items.ensures at c.loop-update-test.true in
    let this = ap (λ (l : List Update). get_or l i blank_update) c.waiting-update-items.ensures in
    elim c.if-update-ge-LAST_AGE.branch [
      | then-update-ge-LAST_AGE w ↦
          rw (w.slots-is, w.list-is, w.kept-is, w.left-is, w.named.ensures)
          (passed_old c.args.self (search rules) i h _ this c.loop-update.invariant w.if-update-ge-LAST_AGE.true)
      | else-update-ge-LAST_AGE w ↦
          rw (w.slots-is, w.list-is, w.kept-is, w.left-is, w.older.ensures)
          (passed_young c.args.self (search rules) i h _ this c.loop-update.invariant w.if-update-ge-LAST_AGE.false)
    ]

pub returns : goal.returns
returns c =
    let h : length (waiting c.args.self) ≤ c.loop-update.update-index = rw c.waiting-update-items.ensures at c.loop-update-test.false in
    passed_all c.args.self c.loop-update.update-index h c.loop-update.invariant
