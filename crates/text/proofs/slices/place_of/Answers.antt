-- `text::slices::place_of` meets its contract: the answer for all is the answer for the bytes from i on.
use mathlib.Core.Path.{sym, ◌∙◌}
use native.Mathlib.Omega.{arith}
use borrow.Author.Tests.{eq-eqb, ne_eqb}
use lib.Dec.{eqb}
use lib.ListN.{get_or}
use Rattle.text.proofs.Scans.{where_end, where_hit, where_pass}
use Rattle.text.proofs.slices.place_of.Goals as goal

pub returns-then-s-i : goal.returns-then-s-i
returns-then-s-i c = let a = c.args in
    let l = c.loop-i in
    sym (l.invariant ∙ where_hit (λ x. eqb x a.b) a.s.now l.i (omega arith) (eq-eqb (get_or a.s.now l.i 0) a.b c.if-s-i.true))

pub loop-i-preserved : goal.loop-i-preserved
loop-i-preserved c = let a = c.args in
    let l = c.loop-i in
    l.invariant ∙ where_pass (λ x. eqb x a.b) a.s.now l.i (omega arith) (ne_eqb (get_or a.s.now l.i 0) a.b c.if-s-i.false)

pub returns : goal.returns
returns c = let a = c.args in
    let l = c.loop-i in
    sym (l.invariant ∙ where_end (λ x. eqb x a.b) a.s.now l.i (omega arith))
