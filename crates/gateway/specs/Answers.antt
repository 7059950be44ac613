-- Document 01's number of each refusal (its table "Numbers of refusal").
use Rattle.std.specs.Prelude.{ℕ}
use Rattle.tpck.specs.Event.{drop_number}
use Rattle.updates.specs.Queue as queue
use Rattle.trpc.specs.Judging.{number_of}
use Rattle.gateway.specs.declared.answers.ByteRefusal.{ByteRefusal}
use Rattle.gateway.specs.declared.answers.ByteRefusal.TheVariants as byte
use Rattle.gateway.specs.declared.answers.TurnRefusal.{TurnRefusal}
use Rattle.gateway.specs.declared.answers.TurnRefusal.TheVariants as turn
use Rattle.gateway.specs.declared.answers.HeadRefusal.{HeadRefusal}
use Rattle.gateway.specs.declared.answers.HeadRefusal.TheVariants as head

-- (01) 1, 3 to 6 as the receiver's, 7 to 14 as the record's, 15, and 16 as the queue's
abbrev pub byte_number : ByteRefusal → ℕ
byte_number byte.Short = 1
byte_number (byte.Dropped d n) = drop_number d
byte_number (byte.Rejected e) = number_of e
byte_number byte.FieldWaits = 15
byte_number byte.QueueFull = queue.full_number queue.full

-- (01) 17
abbrev pub head_number : HeadRefusal → ℕ
head_number head.NoneWaits = 17

-- (01) 1, 17 as the head's, and 18
abbrev pub turn_number : TurnRefusal → ℕ
turn_number turn.Short = 1
turn_number turn.NoneWaits = head_number head.NoneWaits
turn_number turn.NotHead = 18

-- (02, M-102) the number of body bytes that a dropped packet had taken since its SOF; 0 where none is dropped (ours, D-101)
abbrev pub body_taken : ByteRefusal → ℕ
body_taken byte.Short = 0
body_taken (byte.Dropped d n) = n
body_taken (byte.Rejected e) = 0
body_taken byte.FieldWaits = 0
body_taken byte.QueueFull = 0
