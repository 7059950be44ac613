-- A byte of a line (document 01, "Receiving" and "From frame to answer"): the step of the line's receiver, and the answer to a
-- complete frame.
use Rattle.std.specs.Prelude as std
use Rattle.std.specs.Prelude.{Bool, true, false, List, [], ◌∷◌, ◌++◌, ℕ, ltb, length, Ok, Err}
use Rattle.tpck.specs.declared.event.Event.{Event}
use Rattle.tpck.specs.declared.event.Event.TheVariants as event
use Rattle.tpck.specs.Frame.{data_of}
use Rattle.tpck.specs.Receive as receive
use Rattle.devices.specs.declared.field.Field.{Field}
use Rattle.updates.specs.declared.line.Line.{Line}
use Rattle.updates.specs.declared.update.Update.{Update}
use Rattle.updates.specs.declared.queue.QueueFull.{QueueFull}
use Rattle.updates.specs.Line.{line_number}
use Rattle.updates.specs.Queue.{waits, push_answer}
use Rattle.trpc.specs.declared.methods.Entry.{Entry}
use Rattle.trpc.specs.declared.judging.FrameError.{FrameError}
use Rattle.trpc.specs.declared.judging.Subject.{Subject}
use Rattle.trpc.specs.declared.judging.Judged.{Judged}
use Rattle.trpc.specs.declared.judging.Judged.TheVariants as judged
use Rattle.trpc.specs.Judging.{judge}
use Rattle.trpc.specs.Replies.{Response, respond}
use Rattle.gateway.specs.declared.answers.ByteRefusal.{ByteRefusal}
use Rattle.gateway.specs.declared.answers.ByteRefusal.TheVariants as refusal
use Rattle.gateway.specs.declared.answers.ByteRefusal.TheVariants.{Short, Dropped, Rejected, FieldWaits}
use Rattle.gateway.specs.declared.answers.ByteAnswer.{ByteAnswer}
use Rattle.gateway.specs.declared.answers.ByteAnswer.TheVariants.{Nothing, Refused, Queued, Replied}
use Rattle.gateway.specs.State.{State, nothing, new_queue, new_properties, after_step, Result, result, replying}
use Rattle.gateway.specs.Lines.{receiver_of}
use Rattle.gateway.specs.Reply.{on_line, room}

-- (01) refused: no part changes, and no reply; what a drop or refusal does to the receiver is in `stepped`
abbrev pub refuse : ByteRefusal → Result ByteAnswer
refuse e = result nothing (Refused e)

-- (01) a queued update: its age is 0; (02, M-106) it records the line whose byte queues it
abbrev pub new_update : Line → Field → ℕ → Update
new_update l f v = record { line = line_number l; field = f; value = v; age = 0 }

-- (02, M-106) 16 where eight of its line wait; (01) else at the tail, with the number that now waits
unfoldable pub enqueue : List Update → Update → std.Result ℕ QueueFull → Result ByteAnswer
enqueue q u (Err e) = refuse refusal.QueueFull
enqueue q u (Ok n) = result (new_queue (q ++ (u ∷ []))) (Queued n)

-- (01) 15 where the field already waits, then 16, else queued
unfoldable pub admit_if : List Update → Line → Field → ℕ → (already : Bool) → Result ByteAnswer
admit_if q l f v true = refuse FieldWaits
admit_if q l f v false = enqueue q (new_update l f v) (push_answer q (new_update l f v))

-- (01) steps 3 and 4 of an Update that steps 1 and 2 let through, by whether an update of its field waits, (02, M-106) of either line
unfoldable pub admit : List Update → Line → Field → ℕ → Result ByteAnswer
admit q l f v = admit_if q l f v (waits q f)

-- (01) the reply at once, with the properties after it
abbrev pub reply_with : Response → Result ByteAnswer
reply_with x = replying (new_properties x.properties) (Replied (length (on_line x.content))) (on_line x.content)

-- (01) a Request, or an Update that is not to be queued, is answered by the properties and the table as they are, and by the entry
-- and the subject that the checks found
unfoldable pub reply_at_once : State → List ℕ → Entry → Subject → Result ByteAnswer
reply_at_once g content e s = reply_with (respond content e s g.properties g.table)

-- (01) a frame by its judgement: refused by 7 to 14, an update to be queued, or a reply at once
unfoldable pub frame_judged : State → Line → List ℕ → std.Result Judged FrameError → Result ByteAnswer
frame_judged g l content (Err e) = refuse (Rejected e)
frame_judged g l content (Ok (judged.Asks f v)) = admit g.queue l f v
frame_judged g l content (Ok (judged.Answers e s)) = reply_at_once g content e s

-- (01) a complete frame of a type, with its data as the content: judged by 7 to 14 and steps 1 and 2
unfoldable pub frame : State → Line → ℕ → List ℕ → Result ByteAnswer
frame g l ptype content = frame_judged g l content (judge ptype content g.table)

-- (01) the event of the line's receiver, with the body that the byte left in it: there stand the data of a complete frame
unfoldable pub byte_event : State → Line → (body : List ℕ) → Event → Result ByteAnswer
byte_event g l body event.Nothing = result nothing Nothing
byte_event g l body (event.Dropped d n) = refuse (Dropped d n)
byte_event g l body (event.Frame ptype size) = frame g l ptype (data_of body)

-- (01) the line's receiver has stepped to r, also where a refusal changes no other part; then x
abbrev pub stepped : Line → receive.State → Result ByteAnswer → Result ByteAnswer
stepped l r x = replying (after_step l r x.effect) x.answer x.reply

-- (01) 1, before the byte is used
unfoldable pub byte_in : State → Line → receive.Step → (short : Bool) → Result ByteAnswer
byte_in g l s true = refuse Short
byte_in g l s false = stepped l s.next (byte_event g l s.next.body s.event)

-- (01) the byte b, with a buffer of n bytes; (02, M-106) on the line l, whose receiver alone steps
unfoldable pub byte : State → Line → ℕ → ℕ → Result ByteAnswer
byte g l b n = byte_in g l (receive.step (receiver_of g.receivers l) b) (ltb n room)
