-- Frames of bytes below 256 bring values and rows that fit into frames again. Assumes nothing.
use mathlib.Core.Path.{refl, ◌∙◌}
use mathlib.Core.Bool.{Bool, true, false, cond}
use mathlib.Core.List.{List, [], ◌∷◌}
use Prim.Native.Nat.{ℕ, zero, suc, ◌+◌, ◌<◌}
use native.Mathlib.Omega.{arith}
use lib.ListN.{length-set}
use Rattle.lists.proofs.Filters.{all_front}
use Rattle.tpck.specs.Frame.{checksum, header, Stuffing, none, bare, escaped, Valid, valid}
use Rattle.devices.specs.declared.row.Row.{Row}
use Rattle.devices.specs.declared.field.Setting.{Setting}
use Rattle.devices.specs.declared.field.Setting.TheVariants.{Mode, Cool, Slab, Fan}
use Rattle.devices.specs.Row.{with_value, blank_row}
use Rattle.dates.specs.Date as dates
use Rattle.dates.specs.Date.{valid_or, no_date}
use Rattle.dates.specs.Date.ValidOrNA.{is_na}
use Rattle.dates.proofs.Dates.{valid_or_same, valid_or_right}
use Rattle.trpc.specs.Bytes.{byte_at, word_at, long_at}
use Rattle.trpc.specs.Date.{date_in}
use Rattle.trpc.specs.declared.properties.Properties.{Properties}
use Rattle.trpc.specs.declared.methods.GatewayMethod.{GatewayMethod}
use Rattle.trpc.specs.declared.methods.GatewayMethod.TheVariants.{NetworkError, ReportingEnable, FirmwareRevision, ProtocolVersion, DateTime}
use Rattle.transfer.specs.declared.draft.Draft.{Draft}
use Rattle.transfer.specs.declared.slots.Item.{Item}
use Rattle.transfer.specs.declared.slots.Item.TheVariants.{OfGateway, OfRow}
use Rattle.transfer.specs.declared.slots.Part.{Part}
use Rattle.transfer.specs.declared.slots.Part.TheVariants.{Attributes, Version, State, Events, Value}
use Rattle.transfer.specs.Carry.{value_in, took_value, took_part, took}
use Rattle.transfer.specs.Ready.{PropertiesFit, RowFits}
use Rattle.transfer.specs.Statement.{Bytes}

-- the content of a frame
stuffing_bytes : {xs line : List ℕ} → Stuffing xs line → Bytes line → Bytes xs
stuffing_bytes none h = tt
stuffing_bytes (bare e w) h = (h.0, stuffing_bytes w h.1)
stuffing_bytes (escaped w) h = (h.1.0, stuffing_bytes w h.1.1)

pub valid_bytes : (ptype : ℕ) (c : List ℕ) {line : List ℕ} → Valid ptype c line → Bytes line → Bytes c
valid_bytes ptype c (valid {line = l} w) h =
    let body = stuffing_bytes w (all_front (λ b. b < 256) l _ h.1) in
    all_front (λ b. b < 256) c (checksum (header ptype c) ∷ []) body.1.1

pub byte_below : (l : List ℕ) → Bytes l → (i : ℕ) → byte_at l i < 256
byte_below [] h zero = omega arith
byte_below [] h (suc i) = omega arith
byte_below (x ∷ l) h zero = h.0
byte_below (x ∷ l) h (suc i) = byte_below l h.1 i

module _ (c : List ℕ) (h : Bytes c) where
  word_below : (i : ℕ) → word_at c i < 65536
  word_below i = omega (arith, byte_below c h i, byte_below c h (i + 1))

  long_below : (i : ℕ) → long_at c i < 4294967296
  long_below i = omega (arith, word_below i, word_below (i + 2))

  pub year_below : (valid_or (date_in c) no_date).year < 65536
  unfolding valid_or date_in no_date
  year_below = go (dates.valid (date_in c))
    where
      go : (t : Bool) → (cond t (date_in c) no_date).year < 65536
      go true = word_below 5
      go false = omega arith

  value_fits : (g : Properties) (m : GatewayMethod) → PropertiesFit g → PropertiesFit (took_value g m c)
  unfolding took_value
  value_fits g NetworkError k = record { error = word_below 5; firmware = k.firmware; protocol = k.protocol; year = k.year; settled = k.settled }
  value_fits g ReportingEnable k = record { error = k.error; firmware = k.firmware; protocol = k.protocol; year = k.year; settled = k.settled }
  value_fits g FirmwareRevision k = record { error = k.error; firmware = word_below 5; protocol = k.protocol; year = k.year; settled = k.settled }
  value_fits g ProtocolVersion k = record { error = k.error; firmware = k.firmware; protocol = word_below 5; year = k.year; settled = k.settled }
  value_fits g DateTime k = record {
    error = k.error;
    firmware = k.firmware;
    protocol = k.protocol;
    year = year_below;
    settled = valid_or_same (valid_or (date_in c) no_date) (valid_or_right (date_in c) no_date (is_na refl));
  }

  with_fits : (r : Row) (x : Setting) (v : ℕ) → RowFits r → RowFits (with_value r x v)
  unfolding with_value
  with_fits r Mode v k = record { address = k.address; version = k.version; mask = k.mask; cool = k.cool; slab = k.slab; fan = k.fan }
  with_fits r (Cool s) v k = record { address = k.address; version = k.version; mask = k.mask; cool = length-set r.cool s v ∙ k.cool; slab = k.slab; fan = k.fan }
  with_fits r (Slab s) v k = record { address = k.address; version = k.version; mask = k.mask; cool = k.cool; slab = length-set r.slab s v ∙ k.slab; fan = k.fan }
  with_fits r (Fan s) v k = record { address = k.address; version = k.version; mask = k.mask; cool = k.cool; slab = k.slab; fan = length-set r.fan s v ∙ k.fan }

  part_fits : (r : Row) (p : Part) → RowFits r → RowFits (took_part r p c)
  unfolding took_part
  part_fits r Attributes k = record { address = word_below 5; version = omega arith; mask = word_below 7; cool = refl; slab = refl; fan = refl }
  part_fits r Version k = record { address = k.address; version = long_below 7; mask = k.mask; cool = k.cool; slab = k.slab; fan = k.fan }
  part_fits r State k = record { address = k.address; version = k.version; mask = k.mask; cool = k.cool; slab = k.slab; fan = k.fan }
  part_fits r Events k = record { address = k.address; version = k.version; mask = k.mask; cool = k.cool; slab = k.slab; fan = k.fan }
  part_fits r (Value x) k = with_fits r x (value_in x c) k

  -- what a frame brings
  pub took_fits : (d : Draft) (x : Item) → PropertiesFit d.properties → RowFits d.row → PropertiesFit (took d x c).properties × RowFits (took d x c).row
  unfolding took
  took_fits d (OfGateway m) k l = (value_fits d.properties m k, l)
  took_fits d (OfRow p) k l = (k, part_fits d.row p l)

-- a row that fits, of zeros
pub blank_fits : RowFits blank_row
blank_fits = record { address = omega arith; version = omega arith; mask = omega arith; cool = refl; slab = refl; fan = refl }
