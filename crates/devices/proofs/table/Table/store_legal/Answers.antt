-- `devices::Table::store_legal` meets its contract: the row found decides, and is the one that changes.
use mathlib.Core.Path.{refl, sym, ◌∙◌}
use native.Mathlib.Omega.{arith}
use Rattle.std.proofs.Common.{rules}
use Rattle.devices.proofs.Storing.{stored_missing, found_below, stored_refused, stored_found}
use Rattle.devices.proofs.table.Table.store_legal.Goals as goal

pub returns-in_err-at : goal.returns-in_err-at
returns-in_err-at c = let a = c.args in
    c.from_residual.ensures ∙ sym (stored_missing a.self a.field a.value (sym c.in_err-at.ensures))

pub offset_bounds-self-at : goal.offset_bounds-self-at
offset_bounds-self-at c = let a = c.args in omega (arith, found_below a.self a.field a.value (search rules) c.in_ok-at.at (sym c.in_ok-at.ensures))

pub bounds-self-at : goal.bounds-self-at
bounds-self-at c = let a = c.args in found_below a.self a.field a.value (search rules) c.in_ok-at.at (sym c.in_ok-at.ensures)

pub returns-then-not-legal : goal.returns-then-not-legal
returns-then-not-legal c = let a = c.args in
    let judged = rw c.setting-setting.ensures at (sym c.legal.ensures ∙ c.if-not-legal.true) in
    sym (stored_refused a.self a.field a.value (search rules) c.in_ok-at.at (sym c.in_ok-at.ensures) _ _ refl judged)

pub offset_bounds-table-at : goal.offset_bounds-table-at
offset_bounds-table-at c = let a = c.args in omega (arith, found_below a.self a.field a.value (search rules) c.in_ok-at.at (sym c.in_ok-at.ensures))

pub bounds-table-at : goal.bounds-table-at
bounds-table-at c = let a = c.args in found_below a.self a.field a.value (search rules) c.in_ok-at.at (sym c.in_ok-at.ensures)

pub returns : goal.returns
returns c = let a = c.args in
    rw (c.used.ensures, c.with_value.ensures, c.setting-setting.ensures)
    (sym (stored_found a.self a.field a.value (search rules) c.in_ok-at.at (sym c.in_ok-at.ensures) _ _ refl (cc)))
