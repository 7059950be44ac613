-- The frames of a hand-over, in the order of document 02 (M-112): what each is due to be. Services and IDs are those of 000.
use Rattle.std.specs.Prelude.{ℕ, List, [], ◌∷◌, ◌++◌, get_or}
use Rattle.devices.specs.declared.field.Setting.TheVariants.{Mode, Cool, Slab, Fan}
use Rattle.devices.specs.Row.{states}
use Rattle.trpc.specs.Services.{response_update, response_request}
use Rattle.trpc.specs.declared.methods.GatewayMethod.TheVariants.{NetworkError, ReportingEnable, FirmwareRevision, ProtocolVersion, DateTime}
use Rattle.transfer.specs.declared.slots.Slot.{Slot}
use Rattle.transfer.specs.declared.slots.Item.{Item}
use Rattle.transfer.specs.declared.slots.Item.TheVariants.{OfGateway, OfRow}
use Rattle.transfer.specs.declared.slots.Part.TheVariants.{Attributes, Version, State, Events, Value}

-- (02) a frame of the list: its service, the ID of its method, and what it carries
abbrev pub slot : ℕ → ℕ → Item → Slot
slot s i x = record { service = s; id = i; item = x }

-- (02) "NetworkError, ReportingEnable, FirmwareRevision, ProtocolVersion as Response:Request and DateTime as Response:Update"
unfoldable pub value_slots : List Slot
value_slots =
    slot response_request 0x107 (OfGateway NetworkError)
    ∷ slot response_request 0x10F (OfGateway ReportingEnable)
    ∷ slot response_request 0x187 (OfGateway FirmwareRevision)
    ∷ slot response_request 0x18F (OfGateway ProtocolVersion)
    ∷ slot response_update 0x1A7 (OfGateway DateTime)
    ∷ []

-- (02) of one state: cool, slab, fan
abbrev pub state_slots : ℕ → List Slot
state_slots s =
    slot response_request 0x147 (OfRow (Value (Cool s)))
    ∷ slot response_request 0x14F (OfRow (Value (Slab s)))
    ∷ slot response_request 0x157 (OfRow (Value (Fan s)))
    ∷ []

-- (02) state by state
abbrev pub states_slots : List ℕ → List Slot
states_slots [] = []
states_slots (s ∷ l) = state_slots s ++ states_slots l

-- (02) the 26 of a row: "DeviceAttributes, DeviceVersion, SetbackState, SetbackEvents, ModeSetting, and for states 0 to 6 cool, slab, fan"
unfoldable pub row_slots : List Slot
row_slots =
    slot response_request 0x11F (OfRow Attributes)
    ∷ slot response_request 0x19F (OfRow Version)
    ∷ slot response_request 0x177 (OfRow State)
    ∷ slot response_request 0x17F (OfRow Events)
    ∷ slot response_request 0x127 (OfRow (Value Mode))
    ∷ states_slots states

-- (02) the values first, then those of a row
unfoldable pub slots : List Slot
unfolding value_slots row_slots
slots = value_slots ++ row_slots

-- (ours) the frame at a place of this list of 31; past the last the first
unfoldable pub slot_at : ℕ → Slot
slot_at i = get_or slots i (slot response_request 0x107 (OfGateway NetworkError))
