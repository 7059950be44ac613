-- `reports::due::DueReports::take` meets its contract: the least of the three lowest places, by the cases of `Steps`.
use native.Mathlib.Omega.{arith}
use mathlib.Core.Path.{◌∙◌}
use Rattle.reports.specs.declared.due.Report.TheVariants.{DeviceAttributes, SlabSetpoint, FanPercent}
use Rattle.reports.specs.Due.{due, first}
use Rattle.reports.proofs.Ranges.{due_ranged}
use Rattle.reports.proofs.Steps.{take_error, take_attributes, take_slab, take_fan, take_none}
use Rattle.reports.proofs.due.DueReports.take.Goals as goal

pub returns-then-self : goal.returns-then-self
returns-then-self c = let d = c.args.self in take_error d (due_ranged d _ c.well_formed.0) c.if-self.true

pub returns-then-fan-min : goal.returns-then-fan-min
returns-then-fan-min c =
    let d = c.args.self in
    let taken = c.take_lowest.ensures in
    (λ j. first (FanPercent (taken.place j)) (due d.minute d.error d.attributes d.slab (taken.rest j)))
    ∙ take_fan d (due_ranged d _ c.well_formed.0) c.if-self.false (omega arith) (omega arith)

pub returns-then-slab-attributes : goal.returns-then-slab-attributes
returns-then-slab-attributes c =
    let d = c.args.self in
    let taken = c.take_lowest-then-slab-attributes.ensures in
    (λ j. first (SlabSetpoint (taken.place j)) (due d.minute d.error d.attributes (taken.rest j) d.fan))
    ∙ take_slab d (due_ranged d _ c.well_formed.0) c.if-self.false (omega arith) (omega arith)

pub returns-then-attributes-lt32 : goal.returns-then-attributes-lt32
returns-then-attributes-lt32 c =
    let d = c.args.self in
    let taken = c.take_lowest-then-attributes-lt32.ensures in
    (λ j. first (DeviceAttributes (taken.place j)) (due d.minute d.error (taken.rest j) d.slab d.fan))
    ∙ take_attributes d (due_ranged d _ c.well_formed.0) c.if-self.false (omega arith) (omega arith) (omega arith)

pub returns-else-attributes-lt32 : goal.returns-else-attributes-lt32
returns-else-attributes-lt32 c =
    let d = c.args.self in
    take_none d (due_ranged d _ c.well_formed.0) c.if-self.false (omega arith) (omega arith) (omega arith)
