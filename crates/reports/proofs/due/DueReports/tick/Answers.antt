-- `reports::due::DueReports::tick` meets its contract: by the cases of `Steps`.
use Rattle.devices.specs.Table.{rows_of}
use Rattle.reports.proofs.Ranges.{due_ranged}
use Rattle.reports.proofs.Steps.{tick_more, tick_minute, tick_kept}
use Rattle.reports.specs.Due.{ticked}
use mathlib.Core.Path.{sym, ◌∙◌}
use native.Mathlib.Omega.{arith}
use Rattle.reports.proofs.due.DueReports.tick.Goals as goal

pub returns-then-not-reporting : goal.returns-then-not-reporting
unfolding ticked
returns-then-not-reporting c = rw c.if-not-reporting.true

pub returns-then-self-lt-LAST : goal.returns-then-self-lt-LAST
returns-then-self-lt-LAST c =
    let a = c.args in
    rw c.if-not-reporting.false (tick_more a.self (due_ranged a.self _ c.well_formed.0) a.error (rows_of a.table) c.if-self-lt-LAST.true)

pub returns-then-remaining-eq0 : goal.returns-then-remaining-eq0
returns-then-remaining-eq0 c =
    let a = c.args in
    rw c.if-not-reporting.false
    (c.minute.ensures
    ∙ tick_minute a.self (due_ranged a.self _ c.well_formed.0) a.error (rows_of a.table) (omega arith) (sym c.remaining.ensures ∙ c.if-remaining-eq0.true))

pub returns : goal.returns
returns c =
    let a = c.args in
    rw c.if-not-reporting.false
    (tick_kept a.self (due_ranged a.self _ c.well_formed.0) a.error (rows_of a.table) (omega arith) (λ e. c.if-remaining-eq0.false (c.remaining.ensures ∙ e)))
