-- What the listing prints of the bytes of a line (01, "The listing program").
use Rattle.std.specs.Prelude.{ℕ, List}
use Rattle.text.specs.Report.{Carried, lines_of}
use Rattle.updates.specs.declared.line.Line.TheVariants.{Controller}
use Rattle.gateway.specs.declared.answers.ByteAnswer.{ByteAnswer}
use Rattle.gateway.specs.State.{State, Result, applied}
use Rattle.gateway.specs.Reply.{room}
use Rattle.gateway.specs.Byte.{byte}
use Rattle.listing.specs.Lines.{line}
use Rattle.listing.specs.First.{first_gateway}

-- (01) what a byte results in, with a buffer that has just the room of a reply
abbrev pub answered : State → ℕ → Result ByteAnswer
answered g b = byte g Controller b room

-- (01) the gateway after a byte
abbrev pub next : State → ℕ → State
next g b = applied g (answered g b).effect

-- (01) the line that tells what a byte did, at this offset
abbrev pub line_of : ℕ → State → ℕ → List ℕ
line_of offset g b = line offset (answered g b).answer (answered g b).reply

-- (01) what is kept before the first byte: the gateway that the listing starts with, and offsets count from 0
abbrev pub at_first : Carried State
at_first = record { state = first_gateway; offset = 0 }

-- (01) all lines of an input
abbrev pub listing : List ℕ → List ℕ
listing bytes = lines_of next line_of at_first bytes
