-- The gateway that the listing starts with (01, "The listing program").
use Rattle.std.specs.Prelude.{[], ◌∷◌, replicate}
use Rattle.devices.specs.declared.row.Row.{Row}
use Rattle.trpc.specs.Properties as properties
use Rattle.gateway.specs.Lines.{both_fresh}
use Rattle.gateway.specs.State.{State}

-- (01) address 1, version 112810, mask 0x0B, mode 0, state 4, events 0, cool 44, slab 0xFF and fan 0 in all states
abbrev pub only_row : Row
only_row =
    record {
      address = 1;
      version = 112810;
      mask = 0x0B;
      mode = 0;
      state = 4;
      events = 0;
      cool = replicate 7 44;
      slab = replicate 7 0xFF;
      fan = replicate 7 0;
    }

-- (01) a fresh gateway with that row; network error, firmware and protocol numbers 0
abbrev pub first_gateway : State
first_gateway = record { receivers = both_fresh; table = only_row ∷ []; queue = []; properties = properties.fresh 0 0 }
