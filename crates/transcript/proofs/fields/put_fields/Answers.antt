-- `transcript::fields::put_fields` meets its contract: the first field, and after it those passed.
use native.Mathlib.Omega.{arith}
use Rattle.text.proofs.Places.{puts_then}
use Rattle.text.proofs.Texts.{puts_none, puts_next, puts_all}
use Rattle.transcript.specs.Fields.{next_text}
use Rattle.transcript.proofs.fields.put_fields.Goals as goal

pub loop-named-init : goal.loop-named-init
loop-named-init c = puts_none next_text c.args.more.now c.put_named.new.text

pub loop-named-preserved : goal.loop-named-preserved
loop-named-preserved c =
    puts_next next_text c.args.more.now c.loop-named.invariant _ c.loop-named-test.true c.put_next.ensures

pub returns : goal.returns
returns c = puts_then c.put_named.ensures (puts_all next_text c.args.more.now c.loop-named.invariant (omega arith))
