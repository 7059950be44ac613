-- How far a dropped packet got (document 02, M-102): what a refused byte tells beside its number.
use Rattle.std.specs.Prelude.{◌≡◌, cond, length}
use Rattle.tpck.specs.Event.{is_drop}
use Rattle.tpck.specs.Receive as receive
use Rattle.gateway.specs.declared.answers.ByteRefusal.{ByteRefusal}
use Rattle.gateway.specs.declared.answers.ByteAnswer.{ByteAnswer}
use Rattle.gateway.specs.declared.answers.ByteAnswer.TheVariants.{Nothing, Refused, Queued, Replied}
use Rattle.gateway.specs.Answers.{byte_number, body_taken}

-- (02, M-102) a drop, by its number, gives the length that the body has just before the byte; (ours, D-101) any other refusal gives 0
abbrev pub TakenBy : receive.State → ByteRefusal → Type 0
TakenBy r e = body_taken e ≡ cond (is_drop (byte_number e)) (length r.body) 0

-- (02, M-102) so of every answer that refuses; r is the line's receiver before the byte
abbrev pub TakenRight : receive.State → ByteAnswer → Type 0
TakenRight r Nothing = Unit {0}
TakenRight r (Refused e) = TakenBy r e
TakenRight r (Queued n) = Unit {0}
TakenRight r (Replied n) = Unit {0}
