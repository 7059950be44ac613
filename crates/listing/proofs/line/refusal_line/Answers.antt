-- `listing::line::refusal_line` meets its contract: a drop with its count, or another refusal, as `is_drop` says of the number.
use Rattle.std.proofs.Common.{arith}
use Rattle.text.specs.Event.{refused_word}
use Rattle.text.proofs.Lengths.{drop_line_most}
use Rattle.listing.specs.Lines.{refusal_line}
use Rattle.listing.proofs.Lengths.{short_line_most}
use Rattle.listing.proofs.line.refusal_line.Goals as goal

pub returns-then-is_drop : goal.returns-then-is_drop
unfolding refusal_line
returns-then-is_drop c =
    let most = drop_line_most c.args.offset c.number-number.result c.body_taken.result (omega arith) (omega arith) (omega arith) in
    rw (← c.number-number.ensures, ← c.is_drop.ensures, c.if-is_drop.true, ← c.body_taken.ensures) (record { line = rw c.from.ensures at c.put_drop_line.ensures; short = omega (arith, most) })

pub returns-else-is_drop : goal.returns-else-is_drop
unfolding refusal_line
returns-else-is_drop c =
    let most = short_line_most c.args.offset refused_word c.number-number.result (omega arith) (omega arith) (omega arith) in
    rw (← c.number-number.ensures, ← c.is_drop.ensures, c.if-is_drop.false) (record { line = rw c.from-else-is_drop.ensures at c.put_event_line.ensures; short = most })
