-- Document 01's own input and the whole listing of it, computed. Assumes nothing.
use Rattle.std.proofs.Common.{◌≡◌, ℕ, List, [], ◌∷◌, ◌++◌, refl}
use Rattle.lists.specs.Outputs.{outputs}
use Rattle.tpck.specs.Frame.{stuffed, sum, checksum, enclosed}
use Rattle.tpck.specs.Receive.{step}
use Rattle.devices.specs.Field.{same_field}
use Rattle.devices.specs.Row.{for_state, has, in_force, state_for, in_range, legal, settable}
use Rattle.devices.specs.Table.{find, row_at}
use Rattle.updates.specs.Queue.{waits, from_line, lacks_room, push_answer}
use Rattle.trpc.specs.Services.{accepted, service_of_reply}
use Rattle.trpc.specs.Methods.{methods, entry_with, used_with}
use Rattle.trpc.specs.Judging.{breaks, asks, asked, device_steps, subject_steps, steps, judge_from, judge}
use Rattle.trpc.specs.Payload.{device_payload}
use Rattle.trpc.specs.Replies.{respond_device, respond}
use Rattle.gateway.specs.Reply.{on_line}
use Rattle.gateway.specs.Byte.{enqueue, admit_if, admit, reply_at_once, frame_judged, frame, byte_event, byte_in, byte}
use Rattle.text.specs.Decimal.{leading, decimal}
use Rattle.text.specs.Texts.{texts}
use Rattle.text.specs.Event.{event_text, event_line, drop_line}
use Rattle.listing.specs.Lines.{refusal_line, reply_line}
use Rattle.listing.specs.Listing.{listing}

-- (01) "00, then B's request, CA 05, A, D's update"
abbrev input : List ℕ
input =
    0x00 ∷ []
    ++ (0xCA ∷ 0x09 ∷ 0x06 ∷ 0x01 ∷ 0x1F ∷ 0x01 ∷ 0x00 ∷ 0x00 ∷ 0x01 ∷ 0x00 ∷ 0x00 ∷ 0x00 ∷ 0x31 ∷ 0x35 ∷ [])
    ++ (0xCA ∷ 0x05 ∷ [])
    ++ (0xCA ∷ 0x00 ∷ 0x06 ∷ 0x06 ∷ 0x35 ∷ [])
    ++ (0xCA ∷ 0x09 ∷ 0x06 ∷ 0x00 ∷ 0x57 ∷ 0x01 ∷ 0x00 ∷ 0x00 ∷ 0x01 ∷ 0x00 ∷ 0x07 ∷ 0x32 ∷ 0xA1 ∷ 0x35 ∷ [])

-- (01) "14 reply 14 ca 09 06 04 1f 01 00 00 01 00 0b 00 3f 35"
abbrev at14 : List ℕ
at14 = 49 ∷ 52 ∷ 32 ∷ 114 ∷ 101 ∷ 112 ∷ 108 ∷ 121 ∷ 32 ∷ 49 ∷ 52 ∷ 32 ∷ 99 ∷ 97 ∷ 32 ∷ 48 ∷ 57 ∷ 32 ∷ 48 ∷ 54 ∷ 32 ∷ 48 ∷ 52 ∷ 32 ∷ 49 ∷ 102 ∷ 32 ∷ 48 ∷ 49 ∷ 32 ∷ 48 ∷ 48 ∷ 32 ∷ 48 ∷ 48 ∷ 32 ∷ 48 ∷ 49 ∷ 32 ∷ 48 ∷ 48 ∷ 32 ∷ 48 ∷ 98 ∷ 32 ∷ 48 ∷ 48 ∷ 32 ∷ 51 ∷ 102 ∷ 32 ∷ 51 ∷ 53 ∷ 10 ∷ []

-- (02, M-102) "17 drop 3 1"
abbrev at17 : List ℕ
at17 = 49 ∷ 55 ∷ 32 ∷ 100 ∷ 114 ∷ 111 ∷ 112 ∷ 32 ∷ 51 ∷ 32 ∷ 49 ∷ 10 ∷ []

-- (01) "21 refused 8"
abbrev at21 : List ℕ
at21 = 50 ∷ 49 ∷ 32 ∷ 114 ∷ 101 ∷ 102 ∷ 117 ∷ 115 ∷ 101 ∷ 100 ∷ 32 ∷ 56 ∷ 10 ∷ []

-- (01) "35 queued 1"
abbrev at35 : List ℕ
at35 = 51 ∷ 53 ∷ 32 ∷ 113 ∷ 117 ∷ 101 ∷ 117 ∷ 101 ∷ 100 ∷ 32 ∷ 49 ∷ 10 ∷ []

-- (01) "Output, whole", with the second line as document 02 has it
pub document_01_listing : listing input ≡ at14 ++ at17 ++ at21 ++ at35
unfolding outputs refusal_line reply_line event_line drop_line event_text decimal leading texts stuffed sum checksum enclosed step same_field for_state has in_force state_for in_range legal settable find row_at waits from_line lacks_room push_answer accepted service_of_reply methods entry_with used_with breaks asks asked device_steps subject_steps steps judge_from judge device_payload respond_device respond on_line enqueue admit_if admit reply_at_once frame_judged frame byte_event byte_in byte
document_01_listing = refl
