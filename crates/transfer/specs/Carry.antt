-- What a content carries: the values, or the row, with what it brings.
use Rattle.std.specs.Prelude.{ℕ, List, eqb, replicate}
use Rattle.devices.specs.declared.row.Row.{Row}
use Rattle.devices.specs.declared.field.Setting.{Setting}
use Rattle.devices.specs.declared.field.Setting.TheVariants.{Mode, Cool, Slab, Fan}
use Rattle.devices.specs.Row.{row, with_value, blank_row}
use Rattle.trpc.specs.Bytes.{byte_at, word_at, long_at}
use Rattle.dates.specs.Date.{valid_or, no_date}
use Rattle.trpc.specs.Date.{date_in}
use Rattle.trpc.specs.Properties.{properties, fresh}
use Rattle.trpc.specs.declared.properties.Properties.{Properties}
use Rattle.trpc.specs.declared.methods.GatewayMethod.{GatewayMethod}
use Rattle.trpc.specs.declared.methods.GatewayMethod.TheVariants.{NetworkError, ReportingEnable, FirmwareRevision, ProtocolVersion, DateTime}
use Rattle.transfer.specs.declared.draft.Draft.{Draft}
use Rattle.transfer.specs.declared.slots.Item.{Item}
use Rattle.transfer.specs.declared.slots.Item.TheVariants.{OfGateway, OfRow}
use Rattle.transfer.specs.declared.slots.Part.{Part}
use Rattle.transfer.specs.declared.slots.Part.TheVariants.{Attributes, Version, State, Events, Value}
use Rattle.transfer.specs.Contents.{draft}

-- (01) the value of a setting stands behind the address, and behind the state where the setting has one
abbrev pub value_in : Setting → List ℕ → ℕ
value_in Mode c = byte_at c 7
value_in (Cool s) c = byte_at c 8
value_in (Slab s) c = byte_at c 8
value_in (Fan s) c = byte_at c 8

-- (01, 02) a value; a date that is not valid counts as NA
unfoldable pub took_value : Properties → GatewayMethod → List ℕ → Properties
took_value g NetworkError c = properties (word_at c 5) g.reporting g.firmware g.protocol g.date
took_value g ReportingEnable c = properties g.error (eqb (byte_at c 5) 1) g.firmware g.protocol g.date
took_value g FirmwareRevision c = properties g.error g.reporting (word_at c 5) g.protocol g.date
took_value g ProtocolVersion c = properties g.error g.reporting g.firmware (word_at c 5) g.date
took_value g DateTime c = properties g.error g.reporting g.firmware g.protocol (valid_or (date_in c) no_date)

-- (02) what a row's frame brings; "the first sets the row's address"
unfoldable pub took_part : Row → Part → List ℕ → Row
took_part r Attributes c = row (word_at c 5) 0 (word_at c 7) 0 0 0 (replicate 7 0) (replicate 7 0) (replicate 7 0)
took_part r Version c = row r.address (long_at c 7) r.mask r.mode r.state r.events r.cool r.slab r.fan
took_part r State c = row r.address r.version r.mask r.mode (byte_at c 7) r.events r.cool r.slab r.fan
took_part r Events c = row r.address r.version r.mask r.mode r.state (byte_at c 7) r.cool r.slab r.fan
took_part r (Value x) c = with_value r x (value_in x c)

-- (02) either
unfoldable pub took : Draft → Item → List ℕ → Draft
took d (OfGateway m) c = draft (took_value d.properties m c) d.row
took d (OfRow p) c = draft d.properties (took_part d.row p c)

-- (ours) before the first frame
unfoldable pub fresh_draft : ℕ → ℕ → Draft
fresh_draft firmware protocol = draft (fresh firmware protocol) blank_row
