-- A script and what is printed of it, computed. Assumes nothing.
use Rattle.std.proofs.Common.{◌≡◌, [], ◌∷◌, refl}
use Rattle.lists.specs.Outputs.{outputs}
use Rattle.text.specs.Decimal.{leading, decimal}
use Rattle.updates.specs.Queue.{waiting, fresh_queue}
use Rattle.gateway.specs.Calls.{head_of, head_in}
use Rattle.gateway.specs.Results.{fresh}
use Rattle.text.specs.Slices.{place_where}
use Rattle.lists.specs.Equal.{equal}
use Rattle.script.specs.Words.{next_word}
use Rattle.script.specs.Numbers.{digit_value, value_from, in_base_from, in_base, hex_mark, number_in}
use Rattle.script.specs.Names.{named, first_call, read_call}
use Rattle.script.specs.Reading.{ended, read_number}
use Rattle.script.specs.Arguments.{read_field, read_heard}
use Rattle.transcript.specs.Fields.{number_text}
use Rattle.transcript.specs.Answers.{last_text, bad_line_text}
use Rattle.interpreter.specs.Calls.{turn_call, head_call}
use Rattle.interpreter.specs.Line.{run_line}
use Rattle.replay.specs.Progress.{line_ended, longer, next, text_of, last_of, replayed}

-- "head", ".", an empty line, "turn 32 mode 70000 silence" and "head" without a newline
-- print "head refused 17", "line 2 bad", "line 4 bad" and "head refused 17"
five_lines : replayed (104 ∷ 101 ∷ 97 ∷ 100 ∷ 10 ∷ 46 ∷ 10 ∷ 10 ∷ 116 ∷ 117 ∷ 114 ∷ 110 ∷ 32 ∷ 51 ∷ 50 ∷ 32 ∷ 109 ∷ 111 ∷ 100 ∷ 101 ∷ 32 ∷ 55 ∷ 48 ∷ 48 ∷ 48 ∷ 48 ∷ 32 ∷ 115 ∷ 105 ∷ 108 ∷ 101 ∷ 110 ∷ 99 ∷ 101 ∷ 10 ∷ 104 ∷ 101 ∷ 97 ∷ 100 ∷ [])
    ≡ 104 ∷ 101 ∷ 97 ∷ 100 ∷ 32 ∷ 114 ∷ 101 ∷ 102 ∷ 117 ∷ 115 ∷ 101 ∷ 100 ∷ 32 ∷ 49 ∷ 55 ∷ 10 ∷ 108 ∷ 105 ∷ 110 ∷ 101 ∷ 32 ∷ 50 ∷ 32 ∷ 98 ∷ 97 ∷ 100 ∷ 10 ∷ 108 ∷ 105 ∷ 110 ∷ 101 ∷ 32 ∷ 52 ∷ 32 ∷ 98 ∷ 97 ∷ 100 ∷ 10 ∷ 104 ∷ 101 ∷ 97 ∷ 100 ∷ 32 ∷ 114 ∷ 101 ∷ 102 ∷ 117 ∷ 115 ∷ 101 ∷ 100 ∷ 32 ∷ 49 ∷ 55 ∷ 10 ∷ []
unfolding outputs next text_of longer line_ended last_of run_line head_call turn_call read_call first_call named next_word place_where equal ended read_number read_field read_heard number_in in_base in_base_from value_from digit_value hex_mark decimal leading number_text last_text bad_line_text fresh head_of head_in waiting fresh_queue
five_lines = refl
