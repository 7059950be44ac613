-- The next event of a line, and what it asks for before a row is looked at (document 01, "From frame to answer", the checks 7 to 13).
use Rattle.std.specs.Prelude.{ℕ, List, take, drop, Option, Some, None, Result, Ok, Err}
use Rattle.tpck.specs.declared.event.Event.{Event}
use Rattle.tpck.specs.declared.event.Event.TheVariants as event
use Rattle.tpck.specs.declared.control.Control.{Control}
use Rattle.tpck.specs.Scan.{scan, joined, control_of}
use Rattle.devices.specs.Table.{find_address}
use Rattle.trpc.specs.declared.methods.Entry.{Entry}
use Rattle.trpc.specs.declared.methods.DeviceMethod.{DeviceMethod}
use Rattle.trpc.specs.declared.judging.FrameError.{FrameError}
use Rattle.trpc.specs.declared.judging.FrameError.TheVariants.{UnknownAddress}
use Rattle.trpc.specs.declared.planning.Planned.{Planned}
use Rattle.trpc.specs.declared.planning.Planned.TheVariants as planned
use Rattle.trpc.specs.Planning.{plan}
use Rattle.gateway.specs.declared.answers.ByteRefusal.TheVariants.{Dropped, Rejected}
use Rattle.blocks.specs.declared.reaching.Asked.{Asked}
use Rattle.blocks.specs.declared.reaching.Asked.TheVariants as asked
use Rattle.blocks.specs.declared.reaching.Want.{Want}
use Rattle.blocks.specs.declared.reaching.Reached.{Reached}

-- (000) the data of a frame of this size, after Length and Type
abbrev pub content_in : ℕ → List ℕ → List ℕ
content_in size body = take size (drop 2 body)

-- (ours) no row decides
abbrev pub without_row : Asked → Want
without_row a = record { asked = a; place = 0 }

-- (01) 13 where no row has the address; else the row that was found decides
abbrev pub wanted_at : Entry → DeviceMethod → Option ℕ → Want
wanted_at e m (Some i) = record { asked = asked.Device e m; place = i }
wanted_at e m None = without_row (asked.Refused (Rejected UnknownAddress))

-- (01) what a frame asks for, by its plan: 7 to 12, then 13
unfoldable pub wanted_by : Result Planned FrameError → (addresses : List ℕ) → Want
wanted_by (Err x) addresses = without_row (asked.Refused (Rejected x))
wanted_by (Ok (planned.Own e m)) addresses = without_row (asked.Own e m)
wanted_by (Ok (planned.Device e m a)) addresses = wanted_at e m (find_address addresses a)

-- (01) what an event asks for; the data of a frame stand in the body
unfoldable pub wanted : Event → (body addresses : List ℕ) → Want
wanted event.Nothing body addresses = without_row asked.Nothing
wanted (event.Dropped d n) body addresses = without_row (asked.Refused (Dropped d n))
wanted (event.Frame ptype size) body addresses = wanted_by (plan ptype (content_in size body)) addresses

-- (02, M-100) bytes of a line up to and with the first that does something, and what it asks for
unfoldable pub reach : Control → (body addresses bytes : List ℕ) → Reached
reach c body addresses bytes =
    let s = scan (joined c body) bytes in
    let w = wanted s.event s.next.bytes addresses in
    record { control = control_of s.next; used = s.used; asked = w.asked; place = w.place }
