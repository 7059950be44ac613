-- The parts of a gateway that the bytes of a line change (ours), and the gateway with other ones.
use Rattle.std.specs.Prelude.{ℕ, List}
use Rattle.tpck.specs.Scan.{joined, control_of}
use Rattle.updates.specs.declared.line.Line.{Line}
use Rattle.gateway.specs.declared.gateway.Gateway.{Gateway}
use Rattle.gateway.specs.View.{receiver_on, receivers_with}
use Rattle.blocks.specs.declared.parts.Moving.{Moving}

-- (ours) the line's receiver but for its body, the queue and the properties
abbrev pub moving_of : Gateway → Line → Moving
moving_of g l = record { control = control_of (receiver_on g.receivers l); queue = g.queue; properties = g.properties }

-- (ours) the bytes of the body of the line's receiver
abbrev pub body_of : Gateway → Line → List ℕ
body_of g l = (receiver_on g.receivers l).bytes

-- (ours) the gateway with these parts, and the line's body; the other line's receiver and the rows stay
abbrev pub with_moving : Gateway → Line → Moving → List ℕ → Gateway
with_moving g l m body =
    record {
      receivers = receivers_with g.receivers l (joined m.control body);
      table = g.table;
      queue = m.queue;
      properties = m.properties;
    }
