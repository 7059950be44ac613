-- `reports::due::DueReports::remaining` meets its contract: the ones of the three masks, and the error's flag.
use native.Mathlib.Omega.{arith}
use Rattle.reports.proofs.Holding.{reports_count}
use Rattle.reports.proofs.Places.{digit_is}
use Rattle.reports.proofs.Ranges.{due_ranged}
use Rattle.reports.proofs.due.DueReports.remaining.Goals as goal

pub returns : goal.returns
returns c = let d = c.args.self in omega (arith, reports_count d (due_ranged d _ c.well_formed.0), c.from.ensures, digit_is d.error)
