-- `transcript::numbers::put_numbers` meets its contract: what is put so far are the numbers passed.
use native.Mathlib.Omega.{arith}
use Rattle.text.proofs.Texts.{puts_none, puts_next, puts_all}
use Rattle.transcript.specs.Fields.{number_text}
use Rattle.transcript.proofs.numbers.put_numbers.Goals as goal

pub loop-n-init : goal.loop-n-init
loop-n-init g c = λ number same. puts_none (λ n. number_text (number n)) c.args.list.now c.args.text.now

pub loop-n-preserved : goal.loop-n-preserved
loop-n-preserved g c = λ number same. let n = c.n-item.result in
    puts_next (λ n. number_text (number n)) c.args.list.now (c.loop-n.invariant number same) n c.loop-n-test.true
    (rw (← c.n-item.is, ← same n c.into.result c.into.ensures) c.put_number.ensures)

pub returns : goal.returns
returns g c = λ number same. puts_all (λ n. number_text (number n)) c.args.list.now (c.loop-n.invariant number same) (omega arith)
