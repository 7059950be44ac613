-- The receivers of the two lines (document 02, M-106): each line has its own.
use Rattle.tpck.specs.Receive as receive
use Rattle.updates.specs.declared.line.Line.{Line}
use Rattle.updates.specs.declared.line.Line.TheVariants.{Controller, Panel}

-- (02, M-106) what each line's receiver holds
pub record Receivers : Type 0 where
  pub controller : receive.State
  pub panel : receive.State

-- (02, M-106) the receiver of a line
abbrev pub receiver_of : Receivers → Line → receive.State
receiver_of r Controller = r.controller
receiver_of r Panel = r.panel

-- (02, M-106) a line's receiver at another state; the other line's stays
abbrev pub with_receiver : Receivers → Line → receive.State → Receivers
with_receiver r Controller s = record { controller = s; panel = r.panel }
with_receiver r Panel s = record { controller = r.controller; panel = s }

-- (02, M-106) both start fresh
abbrev pub both_fresh : Receivers
both_fresh = record { controller = receive.view receive.fresh; panel = receive.view receive.fresh }
