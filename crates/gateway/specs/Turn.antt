-- A turn (document 01, "Turn"): a try of the update at the head of the queue.
use Rattle.std.specs.Prelude as std
use Rattle.std.specs.Prelude.{Bool, true, false, List, [], ◌∷◌, ℕ, ltb, length, Option, Some, None, Ok, Err}
use Rattle.devices.specs.declared.row.Row.{Row}
use Rattle.devices.specs.declared.field.Field.{Field}
use Rattle.devices.specs.Field.{same_field}
use Rattle.devices.specs.Table.{accepts, store}
use Rattle.updates.specs.declared.line.Line.{Line}
use Rattle.updates.specs.declared.update.Update.{Update}
use Rattle.updates.specs.Update.{line_in}
use Rattle.updates.specs.Queue.{pop, rotate}
use Rattle.trpc.specs.Replies.{confirm}
use Rattle.gateway.specs.declared.answers.TurnRefusal.{TurnRefusal}
use Rattle.gateway.specs.declared.answers.TurnRefusal.TheVariants.{Short, NoneWaits, NotHead}
use Rattle.gateway.specs.declared.answers.TurnAnswer.{TurnAnswer}
use Rattle.gateway.specs.declared.answers.TurnAnswer.TheVariants.{Refused, Failed, Replied}
use Rattle.gateway.specs.State.{State, nothing, new_queue, new_table_queue, Result, result, replying}
use Rattle.gateway.specs.Reply.{on_line, room}

-- (01) a turn that is refused changes nothing and writes nothing
abbrev pub refuse : TurnRefusal → Result TurnAnswer
refuse e = result nothing (Refused e)

-- (01) whether the turn stores what it brings: a value, legal for the field's device
unfoldable pub stores : List Row → Field → Option ℕ → Bool
stores t f None = false
stores t f (Some v) = accepts t f v

-- (01) silence, or a value that is not legal: the update goes to the tail with its age kept, no reply
unfoldable pub try_failed : State → Result TurnAnswer
try_failed g = result (new_queue (rotate g.queue)) Failed

-- (01) a legal value is stored, the update leaves the queue, and the Response:Update is written, (02, M-106) for the line l
unfoldable pub try_confirmed : State → Line → Field → ℕ → Result TurnAnswer
try_confirmed g l f v =
    replying (new_table_queue (store g.table f v) (pop g.queue)) (Replied l (length (on_line (confirm f v)))) (on_line (confirm f v))

-- (01) a try that brings a value: `legal` is whether the field's device may hold it
unfoldable pub try_if : State → Line → Field → ℕ → (legal : Bool) → Result TurnAnswer
try_if g l f v false = try_failed g
try_if g l f v true = try_confirmed g l f v

-- (01) the value brought is held to the device's row as it now is
unfoldable pub try_value : State → Line → Field → ℕ → Result TurnAnswer
try_value g l f v = try_if g l f v (accepts g.table f v)

-- (01) a try of the head, with what the device said: silence, or the value it accepted
unfoldable pub try_heard : State → Line → Field → Option ℕ → Result TurnAnswer
try_heard g l f None = try_failed g
try_heard g l f (Some v) = try_value g l f v

-- (01) 18 where the field is not the head's; `head` is whether it is
unfoldable pub turn_head : State → Line → Field → Option ℕ → (head : Bool) → Result TurnAnswer
turn_head g l f h false = refuse NotHead
turn_head g l f h true = try_heard g l f h

-- (01) 17 where no update waits; (02, M-106) the answer is for the line whose byte queued the head
unfoldable pub turn_queue : State → Field → Option ℕ → List Update → Result TurnAnswer
turn_queue g f h [] = refuse NoneWaits
turn_queue g f h (u ∷ q) = turn_head g (line_in u) f h (same_field f u.field)

-- (01) 1 first; `short` is whether the buffer has under 32 bytes
unfoldable pub turn_in : State → Field → Option ℕ → (short : Bool) → Result TurnAnswer
turn_in g f h true = refuse Short
turn_in g f h false = turn_queue g f h g.queue

-- (01) a turn that names the field f and brings h, with a buffer of n bytes; its checks are 1, 17, 18, in this order
unfoldable pub turn : State → Field → Option ℕ → ℕ → Result TurnAnswer
turn g f h n = turn_in g f h (ltb n room)

-- ---- the same checks before the try, as the code makes them (`turn_checked`)

-- (01) 18 where the field is not the head's; (02, M-106) else the line whose byte queued the head
abbrev pub check_head : Update → (head : Bool) → std.Result Line TurnRefusal
check_head u false = Err NotHead
check_head u true = Ok (line_in u)

-- (01) 17 where no update waits
unfoldable pub check_queue : List Update → Field → std.Result Line TurnRefusal
check_queue [] f = Err NoneWaits
check_queue (u ∷ q) f = check_head u (same_field f u.field)

-- (01) 1 first; `short` is whether the buffer has under 32 bytes
abbrev pub check_in : List Update → Field → (short : Bool) → std.Result Line TurnRefusal
check_in q f true = Err Short
check_in q f false = check_queue q f

-- (01) the checks 1, 17, 18, in this order, with a buffer of n bytes
unfoldable pub check_turn : List Update → Field → ℕ → std.Result Line TurnRefusal
check_turn q f n = check_in q f (ltb n room)

-- (01) a turn by what its checks say
abbrev pub turn_by : State → Field → Option ℕ → std.Result Line TurnRefusal → Result TurnAnswer
turn_by g f h (Err e) = refuse e
turn_by g f h (Ok l) = try_heard g l f h
