-- The exchanges A to M of document 01 ("Exchanges to prove and to run"): what is given, what results, and the list of them.
use Rattle.std.specs.Prelude.{◌≡◌, Bool, false, List, [], ◌∷◌, ◌++◌, map, ℕ, suc, replicate}
use Rattle.tpck.specs.Event.{Told, nothing, drop_with, frame_of}
use Rattle.tpck.specs.Frame as tpck
use Rattle.tpck.specs.Receive as receive
use Rattle.devices.specs.declared.row.Row.{Row}
use Rattle.devices.specs.declared.field.Field.{Field}
use Rattle.devices.specs.declared.field.Setting.TheVariants.{Mode, Cool, Slab, Fan}
use Rattle.devices.specs.Field.{field_of}
use Rattle.devices.specs.Row.{row}
use Rattle.updates.specs.declared.line.Line.{Line}
use Rattle.updates.specs.declared.line.Line.TheVariants.{Controller, Panel}
use Rattle.updates.specs.Update.{line_in}
use Rattle.gateway.specs.declared.gateway.Gateway.{Gateway}
use Rattle.std.specs.Prelude.{Some}
use Rattle.gateway.specs.Lines.{receiver_of}
use Rattle.gateway.specs.View.{view}
use Rattle.ledger.specs.Call.{Call, Named, Answer, Made, start, gateway_after, calls_made}
use Rattle.ledger.specs.Call.OtherCall.{ReadHead}
use Rattle.ledger.specs.Call.Call.{AddRow, Byte, Tick, Turn, Other}
use Rattle.ledger.specs.Call.Answer.{Refused, Dropped, Done, Queued, Replied, RepliedTo, TimedOut, HeadIs}

-- ---- an exchange

-- (01) what is given: the devices, added to a fresh gateway; the bytes of a line, each with a buffer of 32 bytes; and the calls after
-- them
pub record Given : Type 0 where
  pub rows : List Row
  pub line : Line
  pub bytes : List ℕ
  pub calls : List Call

-- (ours) an answer with the place of its call, from 0
pub record At : Type 0 where
  pub place : ℕ
  pub answer : Answer

-- (ours) the answer of the call at place n
abbrev pub at : ℕ → Answer → At
at n a = record { place = n; answer = a }

-- (01) how a receiver is left: inside a packet, an escape pending
pub record Rest : Type 0 where
  pub inside : Bool
  pub pending : Bool

-- (01) a receiver, so seen
abbrev pub rest_of : receive.State → Rest
rest_of r = record { inside = r.inside; pending = r.escaped }

-- (01) hunting, none pending
abbrev pub hunting : Rest
hunting = record { inside = false; pending = false }

-- (01) what results: the rows, the events of the packet layer, the frames, the answers, and the state afterwards
pub record Trace : Type 0 where
  -- (01) the rows in the table
  pub rows : List Row
  -- (01) what the packet layer reports: the drops and the frames
  pub heard : List Told
  -- (01) these frames, as the writer writes them
  pub frame_bytes : List ℕ
  -- (01) what the gateway answers, without the answers that say nothing
  pub answers : List At
  -- (01) afterwards: each line's receiver, and the fields that wait, the head first, (02, M-106) each with its line
  pub controller : Rest
  pub panel : Rest
  pub waiting : List Named

-- ---- what results of what is given

-- (ours) an event before others; a byte that did nothing is left out
abbrev pub noticed : Told → List Told → List Told
noticed nothing l = l
noticed (drop_with n k) l = drop_with n k ∷ l
noticed (frame_of ptype content) l = frame_of ptype content ∷ l

-- (01) the drops and frames that the bytes give a receiver, in order
unfoldable pub heard_in : receive.State → List ℕ → List Told
heard_in s [] = []
heard_in s (b ∷ bs) = noticed (receive.told_of (receive.step s b)) (heard_in (receive.step s b).next bs)

-- (01) the frames among them, as the writer writes them, one after another
unfoldable pub frame_bytes_of : List Told → List ℕ
frame_bytes_of [] = []
frame_bytes_of (nothing ∷ l) = frame_bytes_of l
frame_bytes_of (drop_with n k ∷ l) = frame_bytes_of l
frame_bytes_of (frame_of ptype content ∷ l) = tpck.frame ptype content ++ frame_bytes_of l

-- (ours) an answer before others; left out are a byte that did nothing, a try that failed, a tick that listed nothing
abbrev pub noted : ℕ → Answer → List At → List At
noted n (Refused e) l = at n (Refused e) ∷ l
noted n (Dropped e k) l = at n (Dropped e k) ∷ l
noted n Done l = l
noted n (Queued k) l = at n (Queued k) ∷ l
noted n (Replied bytes) l = at n (Replied bytes) ∷ l
noted n (RepliedTo x bytes) l = at n (RepliedTo x bytes) ∷ l
noted n (TimedOut []) l = l
noted n (TimedOut (f ∷ fs)) l = at n (TimedOut (f ∷ fs)) ∷ l
noted n (HeadIs x f v) l = at n (HeadIs x f v) ∷ l

-- (ours) the answers that say something, each with its place; the first call is at place n
unfoldable pub answers_from : ℕ → List Made → List At
answers_from n [] = []
answers_from n (m ∷ ms) = noted n m.answer (answers_from (suc n) ms)

-- (01) the buffer lent to each byte and turn: 32 zeros, the least that is not refused by 1
abbrev pub buffer : List ℕ
buffer = replicate 32 0

-- (ours) bytes of a line as calls
abbrev pub byte_calls : Line → List ℕ → List Call
byte_calls l bytes = map (λ b. Byte l b buffer) bytes

-- (ours) the bytes as calls, then the calls after them
abbrev pub calls_in : Given → List Call
calls_in x = byte_calls x.line x.bytes ++ x.calls

-- (02, M-106) a field, named with its line
abbrev pub on : Line → Field → Named
on l f = record { line = l; field = f }

-- (ours) what results at a gateway that has the rows
abbrev pub trace_from : Gateway → Given → Trace
trace_from g x =
    let end = view (gateway_after g (calls_in x)) in
    let heard = heard_in (receiver_of (view g).receivers x.line) x.bytes in
    record {
      rows = (view g).table;
      heard = heard;
      frame_bytes = frame_bytes_of heard;
      answers = answers_from 0 (calls_made g (calls_in x));
      controller = rest_of end.receivers.controller;
      panel = rest_of end.receivers.panel;
      waiting = map (λ u. on (line_in u) u.field) end.queue;
    }

-- (01) what results at a fresh gateway with the owner's numbers, to which the rows are added
abbrev pub trace_of : (firmware protocol : ℕ) → Given → Trace
trace_of firmware protocol x = trace_from (gateway_after (start firmware protocol) (map AddRow x.rows)) x

-- (01) the letter of an exchange
pub data Letter : Type 0 where
  A B C D E F G H I J K L M : Letter

-- (01) an exchange: its letter, what is given, and what document 01 says results
pub record Exchange : Type 0 where
  pub letter : Letter
  pub given : Given
  pub expected : Trace

-- (01) one statement: each exchange results in what is expected, whatever numbers the owner gave
abbrev pub AllHold : List Exchange → Type 0
AllHold l = (firmware protocol : ℕ) → map (λ x. trace_of firmware protocol x.given) l ≡ map (λ x. x.expected) l

-- ---- the list; each exchange leaves both receivers hunting, none pending

-- (ours) an exchange whose bytes, of a line, are frames of type 6, just as the writer writes them
abbrev pub frames_on : Line → Letter → List Row → (contents : List (List ℕ)) → (bytes : List ℕ) → List Call → List At → List Named → Exchange
frames_on l x rows contents bytes calls answers waiting =
    record {
      letter = x;
      given = record { rows = rows; line = l; bytes = bytes; calls = calls };
      expected = record { rows = rows; heard = map (frame_of 6) contents; frame_bytes = bytes; answers = answers; controller = hunting; panel = hunting; waiting = waiting };
    }

-- (ours) one of the controller's line, after which none waits
abbrev pub of_frames : Letter → List Row → (contents : List (List ℕ)) → (bytes : List ℕ) → List Call → List At → Exchange
of_frames x rows contents bytes calls answers = frames_on Controller x rows contents bytes calls answers []

-- (ours) an exchange whose bytes a fresh gateway with no devices drops or refuses, or that do nothing
abbrev pub of_bytes : Letter → (bytes : List ℕ) → List Told → (frame_bytes : List ℕ) → List At → Exchange
of_bytes x bytes heard frame_bytes answers =
    record {
      letter = x;
      given = record { rows = []; line = Controller; bytes = bytes; calls = [] };
      expected = record { rows = []; heard = heard; frame_bytes = frame_bytes; answers = answers; controller = hunting; panel = hunting; waiting = [] };
    }

-- (01) the row of the listing program, at any address: version 112810, mask 0x0B, mode 0, state 4, events 0, cool 44, slab 0xFF, fan 0
abbrev pub device : ℕ → Row
device address = row address 112810 0x0B 0 4 0 (replicate 7 44) (replicate 7 0xFF) (replicate 7 0)

-- (ours) a device with every attribute
abbrev pub full_device : ℕ → Row
full_device address = row address 112810 0x0F 0 4 0 (replicate 7 44) (replicate 7 40) (replicate 7 0)

-- (01) D's Update: the fan of device 1 to 50 in its current state, 4
abbrev pub fan_content : List ℕ
fan_content = 0x00 ∷ 0x57 ∷ 0x01 ∷ 0x00 ∷ 0x00 ∷ 0x01 ∷ 0x00 ∷ 0x07 ∷ 0x32 ∷ []

-- (01) D's Update on the line
abbrev pub fan_bytes : List ℕ
fan_bytes = 0xCA ∷ 0x09 ∷ 0x06 ∷ 0x00 ∷ 0x57 ∷ 0x01 ∷ 0x00 ∷ 0x00 ∷ 0x01 ∷ 0x00 ∷ 0x07 ∷ 0x32 ∷ 0xA1 ∷ 0x35 ∷ []

-- (01) its field: the queue carries state 4, for which 7 stood
abbrev pub fan_field : Field
fan_field = field_of 1 (Fan 4)

-- (ours) a Request of that fan, in state 4
abbrev pub fan_request : List ℕ
fan_request = 0x01 ∷ 0x57 ∷ 0x01 ∷ 0x00 ∷ 0x00 ∷ 0x01 ∷ 0x00 ∷ 0x04 ∷ 0x00 ∷ []

-- (ours) that Request on the line
abbrev pub fan_request_bytes : List ℕ
fan_request_bytes = 0xCA ∷ 0x09 ∷ 0x06 ∷ 0x01 ∷ 0x57 ∷ 0x01 ∷ 0x00 ∷ 0x00 ∷ 0x01 ∷ 0x00 ∷ 0x04 ∷ 0x00 ∷ 0x6D ∷ 0x35 ∷ []

-- (01) D with the value that the device accepts: the Update is queued, a Request shows the old value, the turn writes the
-- confirmation, (02, M-106) for the line that asked, and a Request shows the value that is then stored
abbrev pub of_fan : Line → (accepted : ℕ) → (confirmation shown : List ℕ) → Exchange
of_fan l accepted confirmation shown =
    frames_on l D (device 1 ∷ []) (fan_content ∷ fan_request ∷ []) (fan_bytes ++ fan_request_bytes)
    (Turn fan_field (Some accepted) buffer ∷ byte_calls l fan_request_bytes)
    (at 13 (Queued 1)
    ∷ at 27 (Replied (0xCA ∷ 0x09 ∷ 0x06 ∷ 0x04 ∷ 0x57 ∷ 0x01 ∷ 0x00 ∷ 0x00 ∷ 0x01 ∷ 0x00 ∷ 0x04 ∷ 0x00 ∷ 0x70 ∷ 0x35 ∷ []))
    ∷ at 28 (RepliedTo l confirmation)
    ∷ at 42 (Replied shown)
    ∷ [])
    []

-- (ours) M's fields, each with the content of an Update of it to 50, or of a mode to 1. First the content for a cool setpoint
abbrev pub cool_content : (address state : ℕ) → List ℕ
cool_content address state = 0x00 ∷ 0x47 ∷ 0x01 ∷ 0x00 ∷ 0x00 ∷ address ∷ 0x00 ∷ state ∷ 0x32 ∷ []

-- (ours) the content for a slab setpoint
abbrev pub slab_content : (address state : ℕ) → List ℕ
slab_content address state = 0x00 ∷ 0x4F ∷ 0x01 ∷ 0x00 ∷ 0x00 ∷ address ∷ 0x00 ∷ state ∷ 0x32 ∷ []

-- (ours) the content for a mode
abbrev pub mode_content : (address : ℕ) → List ℕ
mode_content address = 0x00 ∷ 0x27 ∷ 0x01 ∷ 0x00 ∷ 0x00 ∷ address ∷ 0x00 ∷ 0x01 ∷ []

-- (01) the seven states of a device
abbrev pub states : List ℕ
states = 0 ∷ 1 ∷ 2 ∷ 3 ∷ 4 ∷ 5 ∷ 6 ∷ []

-- (ours) eight fields that wait, in the order queued: the cool setpoints of device 1 and its mode
abbrev pub eight_fields : List Field
eight_fields = map (λ s. field_of 1 (Cool s)) states ++ (field_of 1 Mode ∷ [])

-- (ours) the contents of their Updates
abbrev pub eight_contents : List (List ℕ)
eight_contents = map (cool_content 1) states ++ (mode_content 1 ∷ [])

-- (ours) eight others: the slab setpoints of device 1 and the mode of device 2
abbrev pub other_fields : List Field
other_fields = map (λ s. field_of 1 (Slab s)) states ++ (field_of 2 Mode ∷ [])

-- (ours) the contents of their Updates
abbrev pub other_contents : List (List ℕ)
other_contents = map (slab_content 1) states ++ (mode_content 2 ∷ [])

-- (ours) the content of a ninth: a cool setpoint of device 2
abbrev pub ninth_content : List ℕ
ninth_content = cool_content 2 0

-- (ours) frames of these contents one after another on a line
abbrev pub joined : List (List ℕ) → List ℕ
joined [] = []
joined (c ∷ cs) = tpck.frame 6 c ++ joined cs

-- (01; 02, M-106) eight are queued. Each answer stands at its frame's last byte (ours): seven frames of 14 bytes, one of 13
abbrev pub eight_answers : List At
eight_answers =
    at 13 (Queued 1)
    ∷ at 27 (Queued 2)
    ∷ at 41 (Queued 3)
    ∷ at 55 (Queued 4)
    ∷ at 69 (Queued 5)
    ∷ at 83 (Queued 6)
    ∷ at 97 (Queued 7)
    ∷ at 110 (Queued 8)
    ∷ []

-- (02, M-106) the ninth of the same line is a 16
abbrev pub of_nine : Line → Exchange
of_nine l =
    let contents = eight_contents ++ (ninth_content ∷ []) in
    frames_on l M (full_device 1 ∷ full_device 2 ∷ []) contents (joined contents) [] (eight_answers ++ (at 124 (Refused 16) ∷ [])) (map (on l) eight_fields)

-- (02, M-106) eight of one line, then eight of the other, which are queued too; a field that waits is a 15 on either line, and the
-- ninth of either a 16
abbrev pub of_sixteen : (first second : Line) → Exchange
of_sixteen l m =
    frames_on l M (full_device 1 ∷ full_device 2 ∷ []) eight_contents (joined eight_contents)
    (byte_calls m (joined (other_contents ++ (cool_content 1 0 ∷ ninth_content ∷ []))) ++ byte_calls l (joined (slab_content 1 0 ∷ ninth_content ∷ [])))
    (eight_answers
    ++ (at 124 (Queued 9)
    ∷ at 138 (Queued 10)
    ∷ at 152 (Queued 11)
    ∷ at 166 (Queued 12)
    ∷ at 180 (Queued 13)
    ∷ at 194 (Queued 14)
    ∷ at 208 (Queued 15)
    ∷ at 221 (Queued 16)
    ∷ at 235 (Refused 15)
    ∷ at 249 (Refused 16)
    ∷ at 263 (Refused 15)
    ∷ at 277 (Refused 16)
    ∷ []))
    (map (on l) eight_fields ++ map (on m) other_fields)

-- (01) the bytes, numbers and replies of document 01, in its order; (02, M-102) the drops of G, H, I and K have their counts; (02,
-- M-106) D is of each line, and M is the ninth update of a line. C's request is 000's; the replies of E and F and to the Requests in
-- D follow from the table of methods
abbrev pub exchanges : List Exchange
exchanges =
    -- type 6 with no data
    of_frames A [] ([] ∷ []) (0xCA ∷ 0x00 ∷ 0x06 ∷ 0x06 ∷ 0x35 ∷ []) [] (at 4 (Refused 8) ∷ [])
    -- the attributes of device 1
    ∷ of_frames B (device 1 ∷ [])
    ((0x01 ∷ 0x1F ∷ 0x01 ∷ 0x00 ∷ 0x00 ∷ 0x01 ∷ 0x00 ∷ 0x00 ∷ 0x00 ∷ []) ∷ [])
    (0xCA ∷ 0x09 ∷ 0x06 ∷ 0x01 ∷ 0x1F ∷ 0x01 ∷ 0x00 ∷ 0x00 ∷ 0x01 ∷ 0x00 ∷ 0x00 ∷ 0x00 ∷ 0x31 ∷ 0x35 ∷ [])
    []
    (at 13 (Replied (0xCA ∷ 0x09 ∷ 0x06 ∷ 0x04 ∷ 0x1F ∷ 0x01 ∷ 0x00 ∷ 0x00 ∷ 0x01 ∷ 0x00 ∷ 0x0B ∷ 0x00 ∷ 0x3F ∷ 0x35 ∷ [])) ∷ [])
    -- its version
    ∷ of_frames C (device 1 ∷ [])
    ((0x01 ∷ 0x9F ∷ 0x01 ∷ 0x00 ∷ 0x00 ∷ 0x01 ∷ 0x00 ∷ 0x00 ∷ 0x00 ∷ 0x00 ∷ 0x00 ∷ []) ∷ [])
    (0xCA ∷ 0x0B ∷ 0x06 ∷ 0x01 ∷ 0x9F ∷ 0x01 ∷ 0x00 ∷ 0x00 ∷ 0x01 ∷ 0x00 ∷ 0x00 ∷ 0x00 ∷ 0x00 ∷ 0x00 ∷ 0xB3 ∷ 0x35 ∷ [])
    []
    (at 15 (Replied (0xCA ∷ 0x0B ∷ 0x06 ∷ 0x04 ∷ 0x9F ∷ 0x01 ∷ 0x00 ∷ 0x00 ∷ 0x01 ∷ 0x00 ∷ 0xAA ∷ 0xB8 ∷ 0x01 ∷ 0x00 ∷ 0x19 ∷ 0x35 ∷ [])) ∷ [])
    -- its fan, queued, then confirmed with the value asked for, 50
    ∷ of_fan Controller 50
    (0xCA ∷ 0x09 ∷ 0x06 ∷ 0x03 ∷ 0x57 ∷ 0x01 ∷ 0x00 ∷ 0x00 ∷ 0x01 ∷ 0x00 ∷ 0x04 ∷ 0x32 ∷ 0xA1 ∷ 0x35 ∷ [])
    (0xCA ∷ 0x09 ∷ 0x06 ∷ 0x04 ∷ 0x57 ∷ 0x01 ∷ 0x00 ∷ 0x00 ∷ 0x01 ∷ 0x00 ∷ 0x04 ∷ 0x32 ∷ 0xA2 ∷ 0x35 ∷ [])
    -- and, of the panel, with another legal value, 30: it is the value brought that is answered and stored
    ∷ of_fan Panel 30
    (0xCA ∷ 0x09 ∷ 0x06 ∷ 0x03 ∷ 0x57 ∷ 0x01 ∷ 0x00 ∷ 0x00 ∷ 0x01 ∷ 0x00 ∷ 0x04 ∷ 0x1E ∷ 0x8D ∷ 0x35 ∷ [])
    (0xCA ∷ 0x09 ∷ 0x06 ∷ 0x04 ∷ 0x57 ∷ 0x01 ∷ 0x00 ∷ 0x00 ∷ 0x01 ∷ 0x00 ∷ 0x04 ∷ 0x1E ∷ 0x8E ∷ 0x35 ∷ [])
    -- the mode of device 0x00CA: an escape in the data
    ∷ of_frames E (device 0xCA ∷ [])
    ((0x01 ∷ 0x27 ∷ 0x01 ∷ 0x00 ∷ 0x00 ∷ 0xCA ∷ 0x00 ∷ 0x00 ∷ []) ∷ [])
    (0xCA ∷ 0x08 ∷ 0x06 ∷ 0x01 ∷ 0x27 ∷ 0x01 ∷ 0x00 ∷ 0x00 ∷ 0x2F ∷ 0xCA ∷ 0x00 ∷ 0x00 ∷ 0x01 ∷ 0x35 ∷ [])
    []
    (at 13 (Replied (0xCA ∷ 0x08 ∷ 0x06 ∷ 0x04 ∷ 0x27 ∷ 0x01 ∷ 0x00 ∷ 0x00 ∷ 0x2F ∷ 0xCA ∷ 0x00 ∷ 0x00 ∷ 0x04 ∷ 0x35 ∷ [])) ∷ [])
    -- the mode of device 0x00FE: an escape before the checksum
    ∷ of_frames F (device 0xFE ∷ [])
    ((0x01 ∷ 0x27 ∷ 0x01 ∷ 0x00 ∷ 0x00 ∷ 0xFE ∷ 0x00 ∷ 0x00 ∷ []) ∷ [])
    (0xCA ∷ 0x08 ∷ 0x06 ∷ 0x01 ∷ 0x27 ∷ 0x01 ∷ 0x00 ∷ 0x00 ∷ 0xFE ∷ 0x00 ∷ 0x00 ∷ 0x2F ∷ 0x35 ∷ 0x35 ∷ [])
    []
    (at 13 (Replied (0xCA ∷ 0x08 ∷ 0x06 ∷ 0x04 ∷ 0x27 ∷ 0x01 ∷ 0x00 ∷ 0x00 ∷ 0xFE ∷ 0x00 ∷ 0x00 ∷ 0x38 ∷ 0x35 ∷ [])) ∷ [])
    -- a wrong checksum; an EOF too early; a byte too many; (02, M-102) each after three body bytes
    ∷ of_bytes G (0xCA ∷ 0x00 ∷ 0x06 ∷ 0x07 ∷ 0x35 ∷ []) (drop_with 6 3 ∷ []) [] (at 4 (Dropped 6 3) ∷ [])
    ∷ of_bytes H (0xCA ∷ 0x01 ∷ 0x06 ∷ 0x07 ∷ 0x35 ∷ []) (drop_with 4 3 ∷ []) [] (at 4 (Dropped 4 3) ∷ [])
    ∷ of_bytes I (0xCA ∷ 0x00 ∷ 0x06 ∷ 0x06 ∷ 0x06 ∷ []) (drop_with 5 3 ∷ []) [] (at 4 (Dropped 5 3) ∷ [])
    -- an escaped SOF opens no packet
    ∷ of_bytes J (0x2F ∷ 0xCA ∷ 0x00 ∷ 0x06 ∷ 0x06 ∷ 0x35 ∷ []) [] [] []
    -- a SOF inside a packet, after no body byte, then A
    ∷ of_bytes K (0xCA ∷ 0xCA ∷ 0x00 ∷ 0x06 ∷ 0x06 ∷ 0x35 ∷ [])
    (drop_with 3 0 ∷ frame_of 6 [] ∷ [])
    (0xCA ∷ 0x00 ∷ 0x06 ∷ 0x06 ∷ 0x35 ∷ [])
    (at 1 (Dropped 3 0) ∷ at 5 (Refused 8) ∷ [])
    -- D's Update, 119 ticks that list nothing, and one more
    ∷ of_frames L (device 1 ∷ [])
    (fan_content ∷ [])
    fan_bytes
    (replicate 119 Tick ++ (Other ReadHead ∷ Tick ∷ Other ReadHead ∷ []))
    (at 13 (Queued 1) ∷ at 133 (HeadIs Controller fan_field 50) ∷ at 134 (TimedOut (on Controller fan_field ∷ [])) ∷ at 135 (Refused 17) ∷ [])
    -- eight updates of a line wait, and a ninth of it comes
    ∷ of_nine Controller
    ∷ of_nine Panel
    -- eight of each line wait, whichever came first, and a ninth of either comes
    ∷ of_sixteen Controller Panel
    ∷ of_sixteen Panel Controller
    ∷ []
