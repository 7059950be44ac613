-- `devices::Row::values_held` meets its contract, by the steps of both loops.
use Rattle.std.proofs.Common.{◌∙◌, sym, arith, get_or}
use Rattle.std.proofs.lemmas.List.Folds.{list_all_at}
use Rattle.devices.specs.declared.field.Setting.TheVariants.{Mode}
use Rattle.devices.specs.Row.{holds, holds_at, states}
use Rattle.devices.proofs.Values.{passed_more, passed_all, settings_at, held_at, unheld_at}
use Rattle.devices.proofs.row.Row.values_held.Goals as goal

pub loop-setting-preserved : goal.loop-setting-preserved
loop-setting-preserved c =
    let r = c.args.self in
    let s = get_or states c.loop-state.state-index 0 in
    passed_more (holds r) (settings_at s) c.loop-setting.setting-index Mode c.loop-setting-test.true c.loop-setting.invariant (sym c.holds.ensures ∙ c.if-not-holds.false)

pub loop-state-preserved : goal.loop-state-preserved
loop-state-preserved c =
    let r = c.args.self in
    let i = c.loop-state.state-index in
    let s = get_or states i 0 in
    let held = passed_all (holds r) (settings_at s) c.loop-setting.setting-index (omega (arith, c.loop-setting-test.false)) c.loop-setting.invariant in
    passed_more (holds_at r) states i 0 c.loop-state-test.true c.loop-state.invariant (sym (held_at r s) ∙ held)

pub returns-then-not-holds : goal.returns-then-not-holds
returns-then-not-holds c =
    let r = c.args.self in
    let i = c.loop-state.state-index in
    let s = get_or states i 0 in
    let unheld = unheld_at r s c.loop-setting.setting-index Mode c.loop-setting-test.true (sym c.holds.ensures ∙ c.if-not-holds.true) in
    sym (list_all_at (holds_at r) states i 0 c.loop-state-test.true unheld)

pub returns-after-loop-state : goal.returns-after-loop-state
returns-after-loop-state c = sym (passed_all (holds_at c.args.self) states c.loop-state.state-index (omega (arith, c.loop-state-test.false)) c.loop-state.invariant)
