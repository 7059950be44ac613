-- The names of a script (ours: docs/REPLAY.md), and the call that a line begins with.
use Rattle.std.specs.Prelude.{ℕ, true, cond, List, [], ◌∷◌, eqb, map, Option, Some, None}
use Rattle.std.specs.Borrow.{Bor}
use Rattle.text.specs.Words.{gateway_word, row_word, byte_word, tick_word, turn_word, head_word, error_word, write_word, date_word, plant_word, hand_word, read_word, block_word, mode_word, cool_word, slab_word, fan_word, controller_word, panel_word}
use Rattle.lists.specs.Equal.{equal}
use Rattle.updates.specs.declared.line.Line.{Line}
use Rattle.updates.specs.declared.line.Line.TheVariants as line
use Rattle.script.specs.Words.{next_word, word_bytes}
use Rattle.script.specs.Place.{Read}
use Rattle.script.specs.declared.names.Call.{Call}
use Rattle.script.specs.declared.names.SettingName.{SettingName}
use Rattle.script.specs.declared.names.Call.TheVariants as call
use Rattle.script.specs.declared.names.SettingName.TheVariants as setting

-- (ours) "dump"
abbrev pub dump_word : List ℕ
dump_word = 100 ∷ 117 ∷ 109 ∷ 112 ∷ []

-- (ours) "more"
abbrev pub more_word : List ℕ
more_word = 109 ∷ 111 ∷ 114 ∷ 101 ∷ []

-- (ours) the words that name a call
abbrev pub calls : List (List ℕ × Call)
calls =
    (gateway_word, call.Gateway)
    ∷ (row_word, call.Row)
    ∷ (byte_word, call.Byte)
    ∷ (tick_word, call.Tick)
    ∷ (turn_word, call.Turn)
    ∷ (head_word, call.Head)
    ∷ (error_word, call.Error)
    ∷ (write_word, call.Write)
    ∷ (dump_word, call.Dump)
    ∷ (date_word, call.Date)
    ∷ (plant_word, call.Plant)
    ∷ (hand_word, call.Hand)
    ∷ (read_word, call.Read)
    ∷ (block_word, call.Block)
    ∷ (more_word, call.More)
    ∷ []

-- (ours) the words that name a setting
abbrev pub settings : List (List ℕ × SettingName)
settings = (mode_word, setting.Mode) ∷ (cool_word, setting.Cool) ∷ (slab_word, setting.Slab) ∷ (fan_word, setting.Fan) ∷ []

-- (02, M-106) the words that name a serial line
abbrev pub lines : List (List ℕ × Line)
lines = (controller_word, line.Controller) ∷ (panel_word, line.Panel) ∷ []

-- (ours) the rows of a table in the code, each with the bytes of its word
abbrev pub rows : {X : Type 0} → List (Bor (List ℕ) × X) → List (List ℕ × X)
rows table = map (λ row. (row.0.now, row.1)) table

-- (ours) what a word names by a table of words; nothing where it stands in none of its rows
unfoldable pub named : {X : Type 0} → List (List ℕ × X) → List ℕ → Option X
named [] w = None
named (row ∷ table) w = cond (equal w row.0) (Some row.1) (named table w)

-- (ours) the call that a line's first word names
abbrev pub call_named : List ℕ → Option Call
call_named w = named calls w

-- (ours) the setting that a field's first word names
abbrev pub setting_named : List ℕ → Option SettingName
setting_named w = named settings w

-- (02, M-106) the serial line that a word names
abbrev pub line_named : List ℕ → Option Line
line_named w = named lines w

-- (ours) the call of a line by its first word: nothing is called where there is none, or where it begins with `#`
unfoldable pub first_call : List ℕ → Option Call
first_call [] = Some call.Nothing
first_call (b ∷ w) = cond (eqb b 35) (Some call.Nothing) (call_named (b ∷ w))

-- (ours) the call that a line begins with, and the place after its name
unfoldable pub read_call : List ℕ → Read (Option Call)
read_call l = record { value = first_call (word_bytes l (next_word l 0)); next = record { at = (next_word l 0).end; good = true } }
