-- What the owner's check of the stored date does to a gateway in any state (document 02, M-101).
use Rattle.std.specs.Prelude.{◌≡◌}
use Rattle.dates.specs.declared.date.Date.{Date}
use Rattle.dates.specs.Date.{no_date, ValidOrNA}
use Rattle.trpc.specs.Properties.{properties}
use Rattle.gateway.specs.State.{State}

-- (02, M-101) a state with another stored date, all else as it is
abbrev pub with_stored_date : State → Date → State
with_stored_date g d =
    let s = g.properties in
    record { receivers = g.receivers; table = g.table; queue = g.queue; properties = properties s.error s.reporting s.firmware s.protocol d }

-- (02, M-101) the check, with the gateway before it and after
pub record DateChecked (g after : State) : Type 0 where
  -- (02) a stored date that is valid or NA stays, with all else
  pub stays : ValidOrNA g.properties.date → after ≡ g
  -- (02) any other becomes NA, and nothing else changes
  pub cleared : (ValidOrNA g.properties.date → ⊥) → after ≡ with_stored_date g no_date
