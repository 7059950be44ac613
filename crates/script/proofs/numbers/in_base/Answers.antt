-- `script::numbers::in_base` meets its contract: the answer for all is the answer for the digits from the index on, after the value so
-- far.
use Rattle.std.proofs.Common.{◌≡◌, ◌≤◌, ◌+◌, ◌*◌, get_or, drop, sym, ◌∙◌, arith}
use Rattle.std.proofs.lemmas.Bool.Decides.{nat_tests}
use Rattle.script.specs.Numbers.{digit_value}
use Rattle.script.proofs.Digits.{digit_there, digit_absent, base_none, base_some, base_bad, base_pass, base_above, base_end}
use Rattle.script.proofs.numbers.in_base.Goals as goal

pub returns-then-is_empty-clause-number : goal.returns-then-is_empty-clause-number
returns-then-is_empty-clause-number c = let a = c.args in
    sym (base_none a.base a.most a.word.now (grind (arith, nat_tests)))

pub loop-b-init : goal.loop-b-init
loop-b-init c = let a = c.args in
    (omega arith, base_some a.base a.most a.word.now (λ e. absurd (grind (arith, nat_tests))))

pub returns-in_err-digit-clause-number : goal.returns-in_err-digit-clause-number
returns-in_err-digit-clause-number c = let a = c.args in
    let l = c.loop-b in
    let none = c.in_err-digit.ensures.value in
    let bad : a.base ≤ digit_value c.from.result = digit_absent a.base c.from.result c.requires.high (omega arith) in
    c.from_residual.ensures ∙ sym (l.invariant.1 ∙ base_bad a.base a.most l.value a.word.now l.b-index c.loop-b-test.true (rw c.from.ensures at bad))

pub returns-then-from-value-clause-number : goal.returns-then-from-value-clause-number
returns-then-from-value-clause-number c = let a = c.args in
    let l = c.loop-b in
    let some = c.in_ok-digit.ensures.value in
    let digit : c.in_ok-digit.digit ≡ digit_value (get_or a.word.now l.b-index 0) = rw c.from.ensures at (some.1 ∙ digit_there a.base c.from.result c.requires.high some.0) in
    sym (l.invariant.1 ∙ rw (base_pass a.base a.most l.value a.word.now l.b-index c.loop-b-test.true (omega arith), ← digit) (base_above a.base a.most (l.value * a.base + c.in_ok-digit.digit) (drop (l.b-index + 1) a.word.now) (omega arith) (rw (c.from-in-loop-b.ensures, c.from-in-loop-b-2.ensures, c.from-in-loop-b-3.ensures) at c.if-from-value.true)))

pub loop-b-preserved : goal.loop-b-preserved
loop-b-preserved c = let a = c.args in
    let l = c.loop-b in
    let some = c.in_ok-digit.ensures.value in
    let digit : c.in_ok-digit.digit ≡ digit_value (get_or a.word.now l.b-index 0) = rw c.from.ensures at (some.1 ∙ digit_there a.base c.from.result c.requires.high some.0) in
    (omega arith, l.invariant.1 ∙ rw (base_pass a.base a.most l.value a.word.now l.b-index c.loop-b-test.true (omega arith), ← digit) (rw (c.from-in-loop-b.ensures, c.from-in-loop-b-2.ensures)))

pub returns-clause-number : goal.returns-clause-number
returns-clause-number c = let l = c.loop-b in
    let a = c.args in
    sym (l.invariant.1 ∙ base_end a.base a.most l.value a.word.now l.b-index (omega arith) (omega arith))
