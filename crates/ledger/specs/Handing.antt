-- The hand-over of the gateway that a list of calls left (document 02, M-112), by the writer's own calls.
use Rattle.std.specs.Prelude.{ℕ, zero, suc, ◌+◌, ◌*◌, ◌≤◌, ◌≡◌, List, [], ◌∷◌, ◌++◌, length}
use Rattle.gateway.specs.declared.gateway.Gateway.{Gateway}
use Rattle.gateway.specs.View.{view}
use Rattle.transfer.specs.Reading.{read}
use Rattle.transfer.specs.Statement.{holding}
use Rattle.ledger.specs.Call.{OtherCall, Call, Answer, Made, calls_made}
use Rattle.ledger.specs.Call.Answer.{Refused, Dropped, Done, Queued, Replied, RepliedTo, TimedOut, HeadIs}
use Rattle.ledger.specs.Ledger.{room_needed}

-- (02) the writer's calls for the places below k, in order, each with this buffer
abbrev pub hand_calls : (lent : List ℕ) → ℕ → List Call
hand_calls lent zero = []
hand_calls lent (suc k) = hand_calls lent k ++ (Call.Other (OtherCall.Hand k lent) ∷ [])

-- (02) the bytes that an answer brings: a frame's, and no others
abbrev pub frame_in : Answer → List ℕ
frame_in (Refused n) = []
frame_in (Dropped n k) = []
frame_in Done = []
frame_in (Queued n) = []
frame_in (Replied b) = b
frame_in (RepliedTo l b) = []
frame_in (TimedOut fs) = []
frame_in (HeadIs l f v) = []

-- (02) those of the calls made, one after the other
abbrev pub frames_in : List Made → List ℕ
frames_in [] = []
frames_in (m ∷ ms) = frame_in m.answer ++ frames_in ms

-- (02) "The writer's frames, all, in order and with the right count, .. are not refused and give the same values and rows", into any
-- buffer that is not short, and whatever numbers the new build is given. `holding` is the reader's answer Accepted, with a gateway of
-- these values and rows, fresh receivers and none waiting
abbrev pub HandsOver : Gateway → Type 0
HandsOver g =
    let rows = (view g).table in
    (firmware protocol : ℕ) (lent : List ℕ) → room_needed ≤ length lent
    → read firmware protocol (length rows) (frames_in (calls_made g (hand_calls lent (5 + 26 * length rows)))) ≡ holding (view g).properties rows
