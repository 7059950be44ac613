-- The exchanges A to M of document 01, computed. Assumes nothing.
use mathlib.Core.Path.{refl}
use Rattle.lists.specs.Overlay.{overlay}
use Rattle.tpck.specs.Frame.{stuffed, sum, checksum, enclosed}
use Rattle.tpck.specs.Receive.{step}
use Rattle.devices.specs.Field.{setting, same_field}
use Rattle.devices.specs.Row.{for_state, has, stored, in_force, state_for, mode_legal, in_range, legal, settable, holds, holds_in_states, values_held, keeps_rules, with_value}
use Rattle.devices.specs.Table.{rows_of, refill_rows, fresh_table, find, row_at, row_answer, accepts, store}
use Rattle.updates.specs.Queue.{waiting, refill, fresh_queue, waits, from_line, lacks_room, push_answer}
use Rattle.updates.specs.Line.{line_of}
use Rattle.updates.specs.Update.{is_from}
use Rattle.updates.specs.Tick.{keeping, leaving, listed}
use Rattle.trpc.specs.Services.{accepted, service_of_reply}
use Rattle.trpc.specs.Methods.{methods, entry_with, used_with}
use Rattle.trpc.specs.Judging.{breaks, asks, asked, device_steps, subject_steps, steps, judge_from, judge}
use Rattle.trpc.specs.Payload.{device_payload}
use Rattle.trpc.specs.Replies.{respond_device, respond, confirm}
use Rattle.gateway.specs.Reply.{on_line}
use Rattle.gateway.specs.Calls.{add_row_by, add_row, tick, head_in, head_of}
use Rattle.gateway.specs.Turn.{try_confirmed, try_if, try_value, try_heard, turn_head, turn_queue, turn_in, turn}
use Rattle.gateway.specs.Byte.{enqueue, admit_if, admit, reply_at_once, frame_judged, frame, byte_event, byte_in, byte}
use Rattle.gateway.specs.Results.{fresh_receivers, fresh}
use Rattle.ledger.specs.Call.{run_other, run, gateway_after, calls_made}
use Rattle.ledger.specs.Exchange.{heard_in, frame_bytes_of, answers_from, exchanges, AllHold}

pub all_hold : AllHold exchanges
unfolding overlay stuffed sum checksum enclosed step setting same_field for_state has stored in_force state_for mode_legal in_range legal settable holds holds_in_states values_held keeps_rules with_value rows_of refill_rows fresh_table find row_at row_answer accepts store waiting refill fresh_queue waits from_line lacks_room push_answer line_of is_from keeping leaving listed accepted service_of_reply methods entry_with used_with breaks asks asked device_steps subject_steps steps judge_from judge device_payload respond_device respond confirm on_line add_row_by add_row tick head_in head_of try_confirmed try_if try_value try_heard turn_head turn_queue turn_in turn enqueue admit_if admit reply_at_once frame_judged frame byte_event byte_in byte fresh_receivers fresh run_other run gateway_after calls_made heard_in frame_bytes_of answers_from
all_hold firmware protocol = refl
