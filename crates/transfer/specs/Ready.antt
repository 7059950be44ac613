-- When a gateway can be handed over (document 02, M-112): none waits, and its values and rows are such as this build's calls leave.
use Rattle.std.specs.Prelude.{◌<◌, ◌≤◌, ◌≡◌, List, [], ◌∷◌, ◌++◌, true, false, length}
use Rattle.lists.specs.Filter.{All, any}
use Rattle.dates.specs.Date.{valid_or, no_date}
use Rattle.devices.specs.declared.row.Row.{Row}
use Rattle.devices.specs.Row.{keeps_rules}
use Rattle.devices.specs.Table.{addressed}
use Rattle.trpc.specs.declared.properties.Properties.{Properties}
use Rattle.gateway.specs.State.{State}

-- (01) numbers that the frames have room for, and a date that is valid or NA
pub record PropertiesFit (g : Properties) : Type 0 where
  pub error : g.error < 65536
  pub firmware : g.firmware < 65536
  pub protocol : g.protocol < 65536
  pub year : g.date.year < 65536
  pub settled : valid_or g.date no_date ≡ g.date

-- (01) the same of a row, with a value for each of the seven states
pub record RowFits (r : Row) : Type 0 where
  pub address : r.address < 65536
  pub version : r.version < 4294967296
  pub mask : r.mask < 65536
  pub cool : length r.cool ≡ 7
  pub slab : length r.slab ≡ 7
  pub fan : length r.fan ≡ 7

-- (01) no row has an address of the rows before it, those in front taken in
abbrev pub OwnAddresses : List Row → List Row → Type 0
OwnAddresses k [] = Unit {0}
OwnAddresses k (r ∷ l) = (any (addressed r.address) k ≡ false) × OwnAddresses (k ++ r ∷ []) l

-- (02) "of a gateway that this build's calls left from fresh", with none waiting
pub record Ready (g : State) : Type 0 where
  pub none_waits : g.queue ≡ []
  pub values : PropertiesFit g.properties
  pub fits : All RowFits g.table
  pub rules : All (λ r. keeps_rules r ≡ true) g.table
  pub own_addresses : OwnAddresses [] g.table
  pub few : length g.table ≤ 32
