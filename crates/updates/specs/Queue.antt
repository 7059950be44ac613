-- The queue of updates: the list that waits, and what each call makes of it. Each is said of the list, and put into the queue's
-- struct by `refill`.
use Rattle.std.specs.Prelude.{ℕ, List, [], ◌∷◌, ◌++◌, Bool, cond, ◌||◌, length, take, drop, get_or, replicate, leb, Option, Some, None, Result, Ok, Err}
use Rattle.lists.specs.Overlay.{overlay}
use Rattle.lists.specs.Filter.{any, filter}
use Rattle.devices.specs.declared.field.Field.{Field}
use Rattle.devices.specs.Field.{same_field}
use Rattle.updates.specs.declared.line.Line.{Line}
use Rattle.updates.specs.declared.update.Update.{Update}
use Rattle.updates.specs.declared.queue.Queue.{Queue}
use Rattle.updates.specs.declared.queue.QueueFull.{QueueFull}
use Rattle.updates.specs.declared.queue.Pushed.{Pushed}
use Rattle.updates.specs.Update.{blank_update, line_in, is_from}

-- (01) how many updates may wait
abbrev pub capacity : ℕ
capacity = 16

-- (02, M-106) how many of them may be of one line
abbrev pub line_capacity : ℕ
line_capacity = 8

-- (01) the updates that wait, the head first; (ours, D-43) a count over the capacity counts as the capacity
unfoldable pub waiting : Queue → List Update
waiting q = take q.count q.slots

-- (ours, D-43) the queue with another list waiting; the slots after it stay
unfoldable pub refill : Queue → List Update → Queue
refill q l = record { count = length l; slots = overlay l q.slots }

-- (01) how many updates wait
abbrev pub used_slots : Queue → ℕ
used_slots q = length (waiting q)

-- (01) none waits
unfoldable pub fresh_queue : Queue
fresh_queue = record { count = 0; slots = replicate capacity blank_update }

-- (ours, D-43) the update at a place; a blank one past the tail
unfoldable pub update_at : List Update → ℕ → Update
update_at l i = get_or l i blank_update

-- (01) an update of the field
abbrev pub is_of : Field → Update → Bool
is_of f u = same_field f u.field

-- (01) an update of the field waits
unfoldable pub waits : List Update → Field → Bool
waits l f = any (is_of f) l

-- (01) the update at the head, if one waits
abbrev pub head_of : List Update → Option Update
head_of [] = None
head_of (u ∷ l) = Some u

-- (02, M-106) the updates of the line
unfoldable pub from_line : Line → List Update → List Update
from_line m l = filter (is_from m) l

-- (02, M-106) eight of the line wait; (ours, D-107) or all slots are taken, in a queue that no list of calls leaves: sixteen are
-- eight of each line
unfoldable pub lacks_room : List Update → Line → Bool
lacks_room l m = leb line_capacity (length (from_line m l)) || leb capacity (length l)

-- (ours) the refusal of a push, as the code's struct has it
abbrev pub full : QueueFull
full = record {}

-- (01; 02, M-106) whether the update is queued, and how many of both lines then wait; refused where its line has no place left
unfoldable pub push_answer : List Update → Update → Result ℕ QueueFull
push_answer l u = cond (lacks_room l (line_in u)) (Err full) (Ok (length (l ++ (u ∷ []))))

-- (01) at the tail; a refused update leaves the queue as it is
abbrev pub pushing : Queue → Update → Result ℕ QueueFull → Pushed
pushing q u (Ok n) = record { queue = refill q (waiting q ++ (u ∷ [])); answer = Ok n }
pushing q u (Err e) = record { queue = q; answer = Err e }

-- (01; 02, M-106) an update is queued where fewer than eight of its line wait
abbrev pub push : Queue → Update → Pushed
push q u = pushing q u (push_answer (waiting q) u)

-- (02, M-106) 16 where eight of the line wait
abbrev pub full_number : QueueFull → ℕ
full_number e = 16

-- (01) the list without its head
abbrev pub pop : List Update → List Update
pop l = drop 1 l

-- (01) the list with its head at the tail, as it was
abbrev pub rotate : List Update → List Update
rotate l = drop 1 l ++ take 1 l
