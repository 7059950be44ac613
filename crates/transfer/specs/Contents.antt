-- What the frames of a hand-over hold: the content of each by the values and the row, and the whole list of a gateway.
use Rattle.std.specs.Prelude.{ℕ, List, [], ◌∷◌, ◌++◌, map}
use Rattle.devices.specs.declared.row.Row.{Row}
use Rattle.devices.specs.Row.{stored, blank_row}
use Rattle.trpc.specs.Bytes.{bytes_of}
use Rattle.dates.specs.Date.{valid_or, no_date}
use Rattle.trpc.specs.Date.{date_payload}
use Rattle.trpc.specs.Payload.{flag, setting_payload}
use Rattle.trpc.specs.Replies.{record_of}
use Rattle.trpc.specs.declared.properties.Properties.{Properties}
use Rattle.trpc.specs.declared.methods.GatewayMethod.{GatewayMethod}
use Rattle.trpc.specs.declared.methods.GatewayMethod.TheVariants.{NetworkError, ReportingEnable, FirmwareRevision, ProtocolVersion, DateTime}
use Rattle.gateway.specs.Reply.{on_line}
use Rattle.transfer.specs.declared.draft.Draft.{Draft}
use Rattle.transfer.specs.declared.slots.Slot.{Slot}
use Rattle.transfer.specs.declared.slots.Item.{Item}
use Rattle.transfer.specs.declared.slots.Item.TheVariants.{OfGateway, OfRow}
use Rattle.transfer.specs.declared.slots.Part.{Part}
use Rattle.transfer.specs.declared.slots.Part.TheVariants.{Attributes, Version, State, Events, Value}
use Rattle.transfer.specs.Slots.{value_slots, row_slots}

-- (ours) the values of a gateway and one row
abbrev pub draft : Properties → Row → Draft
draft g r = record { properties = g; row = r }

-- (01) the payload of a value; (02) a date that is not valid is sent as all NA
unfoldable pub value_payload : Properties → GatewayMethod → List ℕ
value_payload g NetworkError = bytes_of 2 g.error
value_payload g ReportingEnable = flag g.reporting ∷ []
value_payload g FirmwareRevision = bytes_of 2 g.firmware
value_payload g ProtocolVersion = bytes_of 2 g.protocol
value_payload g DateTime = date_payload (valid_or g.date no_date)

-- (01, 000) the payload of a row's frame: the address, then what it carries; a value is the stored one (ours, D-90)
unfoldable pub part_payload : Row → Part → List ℕ
part_payload r Attributes = bytes_of 2 r.address ++ bytes_of 2 r.mask
part_payload r Version = bytes_of 2 r.address ++ bytes_of 4 r.version
part_payload r State = bytes_of 2 r.address ++ (r.state ∷ [])
part_payload r Events = bytes_of 2 r.address ++ (r.events ∷ [])
part_payload r (Value x) = setting_payload r.address x (stored r x)

-- (ours) the payload of either
unfoldable pub payload_of : Draft → Item → List ℕ
payload_of d (OfGateway m) = value_payload d.properties m
payload_of d (OfRow p) = part_payload d.row p

-- (01) service, method, payload
unfoldable pub content_of : Draft → Slot → List ℕ
content_of d s = record_of s.service s.id (payload_of d s.item)

-- (02) the five contents of the values
unfoldable pub value_contents : Properties → List (List ℕ)
value_contents g = map (content_of (draft g blank_row)) value_slots

-- (02) the 26 contents of a row
unfoldable pub row_contents : Properties → Row → List (List ℕ)
row_contents g r = map (content_of (draft g r)) row_slots

-- (02) "then for each row, in order"
unfoldable pub rows_contents : Properties → List Row → List (List ℕ)
rows_contents g [] = []
rows_contents g (r ∷ l) = row_contents g r ++ rows_contents g l

-- (02) the contents of a gateway's frames, in their order
unfoldable pub contents : Properties → List Row → List (List ℕ)
contents g l = value_contents g ++ rows_contents g l

-- (02) the frames on the line
unfoldable pub lines : Properties → List Row → List (List ℕ)
lines g l = map on_line (contents g l)
