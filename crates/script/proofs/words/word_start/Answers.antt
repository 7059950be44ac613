-- `script::words::word_start` meets its contract: the answer for all is the answer for the bytes from i on.
use mathlib.Core.Path.{sym, ◌∙◌, ap}
use mathlib.Core.Bool.{not}
use native.Mathlib.Omega.{arith}
use borrow.Author.Tests.{eq-eqb, ne_eqb}
use lib.Dec.{eqb}
use lib.ListN.{get_or}
use Rattle.text.proofs.Scans.{where_end, where_hit, where_pass}
use Rattle.script.proofs.words.word_start.Goals as goal

pub returns-then-line-i-ne32 : goal.returns-then-line-i-ne32
returns-then-line-i-ne32 c = let a = c.args in
    let l = c.loop-i in
    sym (l.invariant ∙ where_hit (λ x. not (eqb x 32)) a.line.now l.i (omega arith) (ap not (ne_eqb (get_or a.line.now l.i 0) 32 c.if-line-i-ne32.true)))

pub loop-i-preserved : goal.loop-i-preserved
loop-i-preserved c = let a = c.args in
    let l = c.loop-i in
    l.invariant ∙ where_pass (λ x. not (eqb x 32)) a.line.now l.i (omega arith) (ap not (eq-eqb (get_or a.line.now l.i 0) 32 c.if-line-i-ne32.false))

pub returns : goal.returns
returns c = let a = c.args in
    let l = c.loop-i in
    sym (l.invariant ∙ where_end (λ x. not (eqb x 32)) a.line.now l.i (omega arith))
