-- `transcript::bytes::put_byte_refusal` meets its contract: a drop with its count, or another refusal, as `is_drop` says of the number.
use Rattle.transcript.specs.Answers.{byte_refusal_text}
use Rattle.transcript.proofs.bytes.put_byte_refusal.Goals as goal

pub returns-then-is_drop : goal.returns-then-is_drop
unfolding byte_refusal_text
returns-then-is_drop c = rw (← c.number-number.ensures, ← c.is_drop.ensures, c.if-is_drop.true, ← c.body_taken.ensures) c.put_byte_drop.ensures

pub returns-else-is_drop : goal.returns-else-is_drop
unfolding byte_refusal_text
returns-else-is_drop c =
    rw (← c.number-number.ensures, ← c.is_drop.ensures, c.if-is_drop.false) (rw c.from.ensures at c.put_byte_event.ensures)
