-- `tpck::control::hunt` meets its contract: the bytes passed are no start, and the rest is still to be hunted. The loop's test stands
-- where the bytes that don't matter are passed.
use Rattle.std.proofs.Common.{◌≡◌, ℕ, ◌+◌, ◌-◌, ◌≤◌, Bool, List, length, get_or, take, drop, sym, ◌∙◌, arith, length-drop}
use Rattle.std.proofs.lemmas.List.{take_rest}
use Rattle.tpck.specs.Scan.{hunt, hunted_after, skip}
use Rattle.tpck.proofs.Walks.{walk_stopped, walk_went, walk_ended}
use Rattle.tpck.proofs.Hunts.{hunted_more, hunted_ended, hunt_start, hunt_on}
use Rattle.tpck.proofs.Skips.{skip_within, hunt_skips, walk_skipped}
use Rattle.tpck.proofs.control.hunt.Goals as goal

-- so many bytes are passed after the first n, and they are there
passed : (line : List ℕ) (n r : ℕ) (pending : Bool) → n ≤ length line → r ≡ skip pending (take (length line - n) (drop n line))
    → (r ≡ skip pending (drop n line)) × (n + r ≤ length line)
passed line n r pending h e =
    let f : r ≡ skip pending (drop n line) = e ∙ rw take_rest in
    (f, omega (arith, skip_within pending (drop n line), length-drop n line))

pub loop-used-init : goal.loop-used-init
loop-used-init c =
    let a = c.args in
    (omega (arith, skip_within a.escaped a.line.now), rw c.skip-used.ensures (hunt_skips a.escaped a.line.now))

pub returns-then-is_start : goal.returns-then-is_start
returns-then-is_start c = sym (walk_stopped hunt hunted_after c.loop-used.invariant.1 (omega arith) (hunt_start _ _ _ (sym c.is_start.ensures ∙ c.if-is_start.true)))

pub overflow_add-used-in-loop-used : goal.overflow_add-used-in-loop-used
overflow_add-used-in-loop-used c =
    let p = passed c.args.line.now (c.loop-used.used + 1) _ c.pending_next-pending.result (omega arith) c.skip-used-in-loop-used.ensures in
    omega (arith, c.well_formed.1.0)

pub loop-used-preserved : goal.loop-used-preserved
loop-used-preserved c =
    let line = c.args.line.now in
    let p = passed line (c.loop-used.used + 1) _ c.pending_next-pending.result (omega arith) c.skip-used-in-loop-used.ensures in
    let on = hunt_on c.loop-used.pending (get_or line c.loop-used.used 0) (drop (c.loop-used.used + 1) line) (sym c.is_start.ensures ∙ c.if-is_start.false) in (
      p.1,
      rw p.0 (walk_skipped c.args.escaped line c.pending_next-pending.result (c.loop-used.used + 1)
          (walk_went hunt hunted_after c.loop-used.invariant.1 (hunted_more c.loop-used.used 1) (omega arith) (rw c.pending_next-pending.ensures on))),
    )

pub returns : goal.returns
returns c = sym (walk_ended hunt hunted_after c.loop-used.invariant.1 (omega arith) ∙ hunted_ended c.loop-used.pending c.loop-used.used)
