-- `script::names::named` meets its contract: the answer for all rows is the answer for those from the index on.
use Rattle.std.proofs.Common.{sym, ◌∙◌, arith}
use Rattle.script.proofs.Naming.{named_end, named_hit, named_pass}
use Rattle.script.proofs.names.named.Goals as goal

pub returns-then-equal : goal.returns-then-equal
returns-then-equal g c = let a = c.args in
    sym (c.loop-name.invariant ∙ named_hit a.table.now a.word.now c.loop-name.name-index c.loop-name-item.result c.loop-name-test.true c.loop-name-item.is (sym c.equal.ensures ∙ c.if-equal.true))

pub loop-name-preserved : goal.loop-name-preserved
loop-name-preserved g c = let a = c.args in
    c.loop-name.invariant ∙ named_pass a.table.now a.word.now c.loop-name.name-index c.loop-name-item.result c.loop-name-test.true c.loop-name-item.is (sym c.equal.ensures ∙ c.if-equal.false)

pub returns : goal.returns
returns g c = let a = c.args in
    sym (c.loop-name.invariant ∙ named_end a.table.now a.word.now c.loop-name.name-index (omega arith))
