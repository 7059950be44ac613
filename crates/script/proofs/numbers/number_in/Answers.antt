-- `script::numbers::number_in` meets its contract: hexadecimal after 0x, else decimal.
use Rattle.script.specs.Numbers.{number_in}
use Rattle.script.proofs.Digits.{hex_prefix}
use Rattle.script.proofs.numbers.number_in.Goals as goal

pub returns-in-Some-clause-number : goal.returns-in-Some-clause-number
unfolding number_in
returns-in-Some-clause-number c = let h = c.in-Some.ensures.cases in
    rw (← hex_prefix c.args.word.now, h.0, ← h.1) c.in_base.ensures.number

pub returns-in-None-clause-number : goal.returns-in-None-clause-number
unfolding number_in
returns-in-None-clause-number c = rw (← hex_prefix c.args.word.now, c.in-None.ensures.cases) c.in_base-in-None.ensures.number
