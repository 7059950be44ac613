-- `updates::Queue::from` meets its contract: the loop asks each update from the head on. The invariant: the count is that of the
-- updates passed so far.
use Prim.Native.Nat.{◌<◌}
use lib.ListN.{length, get_or}
use mathlib.Core.List.{List}
use mathlib.Core.Path.{◌≡◌, refl, sym, ap, ◌∙◌}
use native.Mathlib.Omega.{arith}
use Rattle.updates.proofs.Room.{count_one, count_none}
use Rattle.updates.specs.declared.update.Update.{Update}
use Rattle.updates.specs.Update.{blank_update, is_from}
use Rattle.updates.specs.Queue.{waiting, from_line}
use Rattle.updates.proofs.queue.Queue.from.Goals.{then-is_from, else-is_from}
use Rattle.updates.proofs.queue.Queue.from.Goals as goal

pub loop-update-init : goal.loop-update-init
unfolding from_line
loop-update-init c = record { counted = refl; few = omega arith }

pub loop-update-preserved : goal.loop-update-preserved
loop-update-preserved c =
    let a = c.args in
    let i = c.loop-update.update-index in
    let v = c.loop-update.invariant in
    let h : i < length (waiting a.self) = rw c.waiting-update-items.ensures at c.loop-update-test.true in
    let asked : is_from a.line (get_or (waiting a.self) i blank_update) ≡ c.is_from.result =
    sym (c.is_from.ensures ∙ ap (λ (l : List Update). is_from a.line (get_or l i blank_update)) c.waiting-update-items.ensures) in
    elim c.if-is_from.branch [
      | then-is_from w ↦
          let e = count_one (waiting a.self) a.line i h (asked ∙ w.if-is_from.true) in
          record { counted = omega (arith, e, v.counted, w.count-is); few = omega (arith, v.few, w.count-is) }
      | else-is_from w ↦
          let e = count_none (waiting a.self) a.line i h (asked ∙ w.if-is_from.false) in
          record { counted = w.count-is ∙ v.counted ∙ sym e; few = omega (arith, v.few, w.count-is) }
    ]
