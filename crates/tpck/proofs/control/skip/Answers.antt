-- `tpck::control::skip` meets its contract: what std's `take_while` takes, counted.
use Rattle.std.proofs.Common.{ℕ, not, ◌∙◌, rules, tests}
use Rattle.std.proofs.lemmas.Iterator.{YieldsList-from_slice}
use Rattle.std.proofs.lemmas.Iterator.Consumers.{count_from_yields_List}
use Rattle.std.proofs.lemmas.Iterator.Search.{YieldsList-from_take_while}
use Rattle.tpck.specs.Scan.{is_mark}
use Rattle.tpck.proofs.Skips.{skip_takes}
use Rattle.tpck.proofs.control.skip.Goals as goal

pub returns : goal.returns
returns c =
    let test = λ (b : ℕ). not (is_mark c.args.escaped b) in
    count_from_yields_List c.take_while.result _ c.count.ensures.ran
    (YieldsList-from_take_while _ test (YieldsList-from_slice c.args.line.now cc) c.take_while.ensures.closure c.take_while.ensures.done (λ x b q k. search (rules, tests)))
    ∙ skip_takes c.args.escaped c.args.line.now
