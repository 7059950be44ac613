-- `reports::masks::rows_with` meets its contract: the loop goes from the last row to the first, so that each step doubles the mask. The
-- invariant: the mask of the rows from i on.
use Rattle.devices.specs.Row.{blank_row}
use Rattle.devices.specs.Table.{rows_of, row_at}
use Rattle.reports.proofs.Ranges.{rows_most}
use Rattle.reports.proofs.Places.{where_next, where_all, digit_is}
use Rattle.reports.specs.Due.{with_bit}
use Rattle.reports.specs.Mask.{digit}
use mathlib.Core.Path.{refl, ap, ◌∙◌}
use native.Mathlib.Omega.{arith}
use Rattle.reports.proofs.masks.rows_with.Goals as goal

pub loop-i-init : goal.loop-i-init
loop-i-init c =
    let t = c.args.table in
    record { few = rows_most t _ c.well_formed.0; mask = where_all (with_bit c.args.bit) (rows_of t) c.used-i.result (omega arith) }

pub overflow_mul-mask : goal.overflow_mul-mask
overflow_mul-mask c =
    let l = c.loop-i in
    let next = where_next (with_bit c.args.bit) (rows_of c.args.table) blank_row l.i l.mask _ (omega arith) (omega arith) l.invariant.few l.invariant.mask refl in
    omega (arith, next.1)

pub overflow_add-mask : goal.overflow_add-mask
unfolding row_at
overflow_add-mask c =
    let l = c.loop-i in
    let has = with_bit c.args.bit in
    let next = where_next has (rows_of c.args.table) blank_row l.i l.mask c.from.result (omega arith) (omega arith) l.invariant.few l.invariant.mask (c.from.ensures ∙ digit_is _ ∙ ap (λ r. digit (has r)) c.at.ensures) in
    omega (arith, next.1)

pub loop-i-preserved : goal.loop-i-preserved
unfolding row_at
loop-i-preserved c =
    let l = c.loop-i in
    let has = with_bit c.args.bit in
    let next = where_next has (rows_of c.args.table) blank_row l.i l.mask c.from.result (omega arith) (omega arith) l.invariant.few l.invariant.mask (c.from.ensures ∙ digit_is _ ∙ ap (λ r. digit (has r)) c.at.ensures) in
    record { few = l.invariant.few; mask = next.0 }
