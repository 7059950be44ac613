-- `script::numbers::in_base` meets its contract: the answer for all is the answer for the digits from the index on, after the value so
-- far.
use Rattle.std.proofs.Common.{◌≡◌, ◌≤◌, drop}
use Rattle.script.specs.Numbers.{in_base, in_base_from}
use Rattle.script.proofs.numbers.in_base.Given as goal

abbrev pub invariant-loop-b : goal.invariant-loop-b
invariant-loop-b l = (l.value ≤ l.most) × (in_base l.base l.most l.word ≡ in_base_from l.base l.most l.value (drop l.b-index l.word))
