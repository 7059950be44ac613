-- `reports::due::minute` meets its contract: the two masks of the table.
use Rattle.devices.specs.Table.{rows_of}
use Rattle.reports.proofs.Ranges.{rows_most}
use Rattle.reports.proofs.Steps.{minute_held}
use Rattle.reports.specs.Due.{due}
use lib.Dec.{eqb}
use mathlib.Core.Bool.{not}
use mathlib.Core.Path.{◌∙◌}
use Rattle.reports.proofs.due.minute.Goals as goal

pub returns : goal.returns
returns c = let t = c.args.table in
    let m = rows_most t _ c.well_formed.1.0 in
    let a = c.rows_with-slabs.ensures in
    (λ j. due 0 (not (eqb c.args.error 0)) (a j) (a j) (c.rows_with-fans.ensures j)) ∙ minute_held c.args.error (rows_of t) m
