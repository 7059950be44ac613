-- How far a dropped packet got (document 02, M-102), as C reads it: of every gateway value, byte and buffer. Assumes nothing.
use Prim.Native.Nat.{ℕ}
use mathlib.Core.Path.{◌≡◌}
use mathlib.Core.Bool.{cond}
use mathlib.Core.List.{List}
use native.Mathlib.Omega.{arith}
use lib.ListN.{length}
use Rattle.tpck.specs.Event.{is_drop}
use Rattle.tpck.specs.Receive as receive
use Rattle.updates.specs.Line.{line_of}
use Rattle.gateway.specs.declared.gateway.Gateway.{Gateway}
use Rattle.gateway.specs.declared.answers.ByteAnswer.{ByteAnswer}
use Rattle.gateway.specs.declared.answers.ByteAnswer.TheVariants.{Nothing, Refused, Queued, Replied}
use Rattle.gateway.specs.Lines.{receiver_of}
use Rattle.gateway.specs.Taken.{TakenRight}
use Rattle.gateway.specs.Byte as byte_call
use Rattle.gateway.specs.View.{view}
use Rattle.gateway.proofs.Taken.{taken_right}
use Rattle.capi.specs.Answers.{of_byte}
use Rattle.capi.specs.Drops.{DropRead}

answer_read : (s : receive.State) (a : ByteAnswer) → TakenRight s a
    → (of_byte a).outcome ≡ 1 → (of_byte a).count ≡ cond (is_drop (of_byte a).number) (length s.body) 0
answer_read s Nothing t e = absurd (omega (arith, e))
answer_read s (Refused r) t e = t
answer_read s (Queued n) t e = absurd (omega (arith, e))
answer_read s (Replied n) t e = absurd (omega (arith, e))

pub drop_read : (g : Gateway) (l b : ℕ) (lent : List ℕ) → DropRead g l b lent
drop_read g l b lent =
    answer_read (receiver_of (view g).receivers (line_of l)) (byte_call.byte (view g) (line_of l) b (length lent)).answer (taken_right (view g) (line_of l) b (length lent))
