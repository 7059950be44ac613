-- The date in the fields of DateTime (000, 01's list of methods).
use Rattle.std.specs.Prelude.{ℕ, List, [], ◌∷◌, ◌++◌}
use Rattle.dates.specs.declared.date.Date.{Date}
use Rattle.dates.specs.Date.{date}
use Rattle.trpc.specs.Bytes.{byte_at, word_at, bytes_of}

-- (01) the date in the fields of a record, which start at place 5: u16 year, then month, day, weekday, hour, minute
unfoldable pub date_in : List ℕ → Date
date_in c = date (word_at c 5) (byte_at c 7) (byte_at c 8) (byte_at c 9) (byte_at c 10) (byte_at c 11)

-- (01) the payload that carries a date
abbrev pub date_payload : Date → List ℕ
date_payload d = bytes_of 2 d.year ++ (d.month ∷ d.day ∷ d.weekday ∷ d.hour ∷ d.minute ∷ [])
