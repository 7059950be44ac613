-- Answers and a state as they are printed, computed. Assumes nothing.
use mathlib.Core.Path.{◌≡◌, refl}
use mathlib.Core.List.{[], ◌∷◌}
use Rattle.std.specs.Prelude.{Err}
use Rattle.text.specs.Decimal.{leading, decimal}
use Rattle.text.specs.Event.{event_text, drop_line}
use Rattle.text.specs.Texts.{texts}
use Rattle.tpck.specs.declared.event.Drop.TheVariants.{Restarted}
use Rattle.devices.specs.declared.field.Setting.TheVariants.{Mode, Fan}
use Rattle.devices.specs.Field.{setting, field_of}
use Rattle.devices.specs.Table.{rows_of, fresh_table}
use Rattle.updates.specs.declared.line.Line.TheVariants.{Panel}
use Rattle.updates.specs.Line.{line_of}
use Rattle.updates.specs.Queue.{waiting, fresh_queue}
use Rattle.trpc.specs.Properties as properties
use Rattle.dates.specs.Date.{no_date}
use Rattle.gateway.specs.declared.answers.ByteRefusal.TheVariants.{Dropped}
use Rattle.gateway.specs.declared.answers.ByteAnswer.TheVariants.{Refused}
use Rattle.gateway.specs.declared.answers.TurnAnswer.TheVariants as turn
use Rattle.gateway.specs.View.{view}
use Rattle.gateway.specs.Results.{fresh, fresh_receivers}
use Rattle.tpck.specs.Frame.{sum}
use Rattle.blocks.specs.declared.answers.BlockRefusal.TheVariants.{Short}
use Rattle.blocks.specs.Block.{used}
use Rattle.blocks.specs.Counts.{times, times_queued, total_taken, counted}
use Rattle.transcript.specs.Fields.{number_text, stated_text, line_field_text, next_text}
use Rattle.transcript.specs.Answers.{last_text, frame_text, byte_drop_text, byte_refusal_text, byte_answer_text, tick_answer_text, turn_reply_text, turn_answer_text}
use Rattle.transcript.specs.Tallies.{tally_text, counts_text, used_text, block_answer_text}
use Rattle.transcript.specs.State.{body_length, receiver_text, receivers_text, properties_numbers, properties_text, carried_text, state_text}

-- "tick 3 panel mode 5, controller fan 6 2"
two_listed : tick_answer_text 3 (record { line = 1; field = field_of 5 Mode } ∷ record { line = 0; field = field_of 6 (Fan 2) } ∷ [])
    ≡ 116 ∷ 105 ∷ 99 ∷ 107 ∷ 32 ∷ 51 ∷ 32 ∷ 112 ∷ 97 ∷ 110 ∷ 101 ∷ 108 ∷ 32 ∷ 109 ∷ 111 ∷ 100 ∷ 101 ∷ 32 ∷ 53
    ∷ 44 ∷ 32 ∷ 99 ∷ 111 ∷ 110 ∷ 116 ∷ 114 ∷ 111 ∷ 108 ∷ 108 ∷ 101 ∷ 114 ∷ 32 ∷ 102 ∷ 97 ∷ 110 ∷ 32 ∷ 54 ∷ 32 ∷ 50 ∷ 10 ∷ []
unfolding setting line_of line_field_text next_text stated_text number_text texts decimal leading
two_listed = refl

-- "byte 1 drop 3 258"
byte_dropped : byte_answer_text 1 (Refused (Dropped Restarted 258)) []
    ≡ 98 ∷ 121 ∷ 116 ∷ 101 ∷ 32 ∷ 49 ∷ 32 ∷ 100 ∷ 114 ∷ 111 ∷ 112 ∷ 32 ∷ 51 ∷ 32 ∷ 50 ∷ 53 ∷ 56 ∷ 10 ∷ []
unfolding byte_refusal_text byte_drop_text drop_line event_text decimal leading
byte_dropped = refl

-- "turn reply panel 2 ca 35"
turn_replied : turn_answer_text (turn.Replied Panel 2) (0xCA ∷ 0x35 ∷ 0 ∷ [])
    ≡ 116 ∷ 117 ∷ 114 ∷ 110 ∷ 32 ∷ 114 ∷ 101 ∷ 112 ∷ 108 ∷ 121 ∷ 32 ∷ 112 ∷ 97 ∷ 110 ∷ 101 ∷ 108 ∷ 32 ∷ 50 ∷ 32 ∷ 99 ∷ 97 ∷ 32 ∷ 51 ∷ 53 ∷ 10 ∷ []
unfolding turn_reply_text frame_text number_text texts decimal leading
turn_replied = refl

-- "block 36 drops 1 0 0 0 body 1 refused 0 1 0 0 0 0 0 0 0 0 queued 1 reply 2 ca 35"
block_told : block_answer_text (used 36 2) (record { numbers = 1 ∷ 0 ∷ 0 ∷ 0 ∷ 0 ∷ 1 ∷ 0 ∷ 0 ∷ 0 ∷ 0 ∷ 0 ∷ 0 ∷ 0 ∷ 0 ∷ []; queued = 1; body = 1 }) (0xCA ∷ 0x35 ∷ 0 ∷ [])
    ≡ 98 ∷ 108 ∷ 111 ∷ 99 ∷ 107 ∷ 32 ∷ 51 ∷ 54 ∷ 32 ∷ 100 ∷ 114 ∷ 111 ∷ 112 ∷ 115 ∷ 32 ∷ 49 ∷ 32 ∷ 48 ∷ 32 ∷ 48 ∷ 32 ∷ 48 ∷ 32 ∷ 98 ∷ 111 ∷ 100 ∷ 121 ∷ 32 ∷ 49 ∷ 32
    ∷ 114 ∷ 101 ∷ 102 ∷ 117 ∷ 115 ∷ 101 ∷ 100 ∷ 32 ∷ 48 ∷ 32 ∷ 49 ∷ 32 ∷ 48 ∷ 32 ∷ 48 ∷ 32 ∷ 48 ∷ 32 ∷ 48 ∷ 32 ∷ 48 ∷ 32 ∷ 48 ∷ 32 ∷ 48 ∷ 32 ∷ 48 ∷ 32 ∷ 113 ∷ 117
    ∷ 101 ∷ 117 ∷ 101 ∷ 100 ∷ 32 ∷ 49 ∷ 32 ∷ 114 ∷ 101 ∷ 112 ∷ 108 ∷ 121 ∷ 32 ∷ 50 ∷ 32 ∷ 99 ∷ 97 ∷ 32 ∷ 51 ∷ 53 ∷ 10 ∷ []
unfolding used_text counts_text tally_text frame_text number_text texts decimal leading
block_told = refl

-- "block 0 drops 0 0 0 0 body 0 refused 0 0 0 0 0 0 0 0 0 0 queued 0 reply 0", with none written
none_told : block_answer_text (used 0 0) (counted []) []
    ≡ 98 ∷ 108 ∷ 111 ∷ 99 ∷ 107 ∷ 32 ∷ 48 ∷ 32 ∷ 100 ∷ 114 ∷ 111 ∷ 112 ∷ 115 ∷ 32 ∷ 48 ∷ 32 ∷ 48 ∷ 32 ∷ 48 ∷ 32 ∷ 48 ∷ 32 ∷ 98 ∷ 111 ∷ 100 ∷ 121 ∷ 32 ∷ 48 ∷ 32 ∷ 114
    ∷ 101 ∷ 102 ∷ 117 ∷ 115 ∷ 101 ∷ 100 ∷ 32 ∷ 48 ∷ 32 ∷ 48 ∷ 32 ∷ 48 ∷ 32 ∷ 48 ∷ 32 ∷ 48 ∷ 32 ∷ 48 ∷ 32 ∷ 48 ∷ 32 ∷ 48 ∷ 32 ∷ 48 ∷ 32 ∷ 48 ∷ 32 ∷ 113 ∷ 117 ∷ 101
    ∷ 117 ∷ 101 ∷ 100 ∷ 32 ∷ 48 ∷ 32 ∷ 114 ∷ 101 ∷ 112 ∷ 108 ∷ 121 ∷ 32 ∷ 48 ∷ 10 ∷ []
unfolding used_text counts_text tally_text frame_text number_text texts decimal leading counted times times_queued total_taken sum
none_told = refl

-- "block refused 1"
block_refused : block_answer_text (Err Short) (counted []) []
    ≡ 98 ∷ 108 ∷ 111 ∷ 99 ∷ 107 ∷ 32 ∷ 114 ∷ 101 ∷ 102 ∷ 117 ∷ 115 ∷ 101 ∷ 100 ∷ 32 ∷ 49 ∷ 10 ∷ []
unfolding last_text number_text decimal leading
block_refused = refl

-- "receiver controller hunting plain 0", "receiver panel hunting plain 0", and "settings 0 0 112 2 65535 255 255 255 255 255"
fresh_state : state_text (view (fresh 112 2))
    ≡ 114 ∷ 101 ∷ 99 ∷ 101 ∷ 105 ∷ 118 ∷ 101 ∷ 114 ∷ 32 ∷ 99 ∷ 111 ∷ 110 ∷ 116 ∷ 114 ∷ 111 ∷ 108 ∷ 108 ∷ 101 ∷ 114
    ∷ 32 ∷ 104 ∷ 117 ∷ 110 ∷ 116 ∷ 105 ∷ 110 ∷ 103 ∷ 32 ∷ 112 ∷ 108 ∷ 97 ∷ 105 ∷ 110 ∷ 32 ∷ 48 ∷ 10
    ∷ 114 ∷ 101 ∷ 99 ∷ 101 ∷ 105 ∷ 118 ∷ 101 ∷ 114 ∷ 32 ∷ 112 ∷ 97 ∷ 110 ∷ 101 ∷ 108 ∷ 32 ∷ 104 ∷ 117 ∷ 110 ∷ 116 ∷ 105 ∷ 110 ∷ 103 ∷ 32 ∷ 112 ∷ 108 ∷ 97 ∷ 105 ∷ 110 ∷ 32 ∷ 48 ∷ 10
    ∷ 115 ∷ 101 ∷ 116 ∷ 116 ∷ 105 ∷ 110 ∷ 103 ∷ 115 ∷ 32 ∷ 48 ∷ 32 ∷ 48 ∷ 32 ∷ 49 ∷ 49 ∷ 50 ∷ 32 ∷ 50 ∷ 32
    ∷ 54 ∷ 53 ∷ 53 ∷ 51 ∷ 53 ∷ 32 ∷ 50 ∷ 53 ∷ 53 ∷ 32 ∷ 50 ∷ 53 ∷ 53 ∷ 32 ∷ 50 ∷ 53 ∷ 53 ∷ 32 ∷ 50 ∷ 53 ∷ 53 ∷ 32 ∷ 50 ∷ 53 ∷ 53 ∷ 10 ∷ []
unfolding state_text carried_text receivers_text receiver_text properties_text properties_numbers body_length last_text number_text texts fresh fresh_receivers properties.fresh no_date fresh_table fresh_queue rows_of waiting decimal leading
fresh_state = refl
