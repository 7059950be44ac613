-- What the program tells of its input (ours).
use Rattle.std.specs.Prelude.{ℕ, ◌+◌, ◌%◌, ◌^◌, cond, Ok, Err, List, [], ◌∷◌, nat_lt}
use Rattle.text.specs.Event.{event_line, refused_word}
use Rattle.devices.specs.Table.{table_places, rows_of}
use Rattle.gateway.specs.declared.gateway.Gateway.{Gateway}
use Rattle.transfer.specs.declared.reader.ReadRefusal.{ReadRefusal}
use Rattle.transfer.specs.declared.reader.ReadRefusal.TheVariants.{Length}
use Rattle.transfer.specs.Reading.{ReadAnswer, read_number, read}
use Rattle.transcript.specs.State.{carried_text}

-- (ours) the most bytes that are told
abbrev pub most_told : ℕ
most_told = 8192

-- (ours) the place in the input of what refused it: the number of rows stands at 0, and the frames from 1 on
unfoldable pub place_in : (count at : ℕ) → ℕ
place_in count at = cond (nat_lt table_places count) 0 ((at + 1) % 2 ^ 64)

-- (ours) OFFSET refused N
unfoldable pub refused_line : ℕ → ReadRefusal → List ℕ
refused_line offset e = event_line offset refused_word (read_number e)

-- (ours) what a gateway that was read holds, as `replay` prints it for `dump`
unfoldable pub read_text : Gateway → List ℕ
read_text g = carried_text g.properties (rows_of g.table)

-- (ours) what the reader's answer tells
abbrev pub told_as : (count : ℕ) → Gateway → ReadAnswer → List ℕ
told_as count g (Ok x) = read_text g
told_as count g (Err e) = refused_line (place_in count e.at) e.why

-- (ours) of the number of rows and the frames
unfoldable pub told_of : (count : ℕ) → List ℕ → List ℕ
told_of count bytes =
    let x = read 0 0 count bytes in
    told_as count x.gateway x.answer

-- (ours) of the input: its first byte is the number of rows. With no byte at all it ends early
unfoldable pub told : List ℕ → List ℕ
told [] = refused_line 0 Length
told (count ∷ bytes) = told_of count bytes
