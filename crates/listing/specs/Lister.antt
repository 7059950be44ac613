-- What the lister of the code keeps from block to block (ours).
use Rattle.text.specs.Report.{Carried}
use Rattle.gateway.specs.State.{State}
use Rattle.gateway.specs.View.{view}
use Rattle.listing.specs.declared.lister.Lister.{Lister}

-- (ours) what the struct keeps
abbrev pub carried : Lister → Carried State
carried s = record { state = view s.gateway; offset = s.offset }
