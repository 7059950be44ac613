-- `transfer::writer::hand` meets its contract: 1, then 23, else the line at the place.
use mathlib.Core.Path.{refl, sym, ap, ◌∙◌}
use lib.ListN.{length}
use Rattle.std.specs.Prelude.{Ok}
use Rattle.std.specs.Option.{is_some}
use Rattle.lists.proofs.Overlays.{overlay_nil}
use Rattle.gateway.specs.View.{view}
use Rattle.transfer.specs.Hand.{HandAnswer, line_at}
use Rattle.transfer.proofs.Handing.{hand_short, head_waits, head_none}
use Rattle.transfer.proofs.writer.hand.Goals as goal

pub returns-then-buffer-lt-ROOM : goal.returns-then-buffer-lt-ROOM
returns-then-buffer-lt-ROOM c =
    rw (hand_short (view c.args.gateway) c.args.place (length c.args.buffer.now) c.if-buffer-lt-ROOM.true)
    (record { answer = refl; buffer = sym (overlay_nil c.args.buffer.now) })

pub returns-then-is_some : goal.returns-then-is_some
returns-then-is_some c =
    rw (head_waits (view c.args.gateway) c.args.place (length c.args.buffer.now) c.if-buffer-lt-ROOM.false (ap is_some (sym c.head.ensures) ∙ sym c.is_some.ensures ∙ c.if-is_some.true))
    (record { answer = refl; buffer = sym (overlay_nil c.args.buffer.now) })

pub returns : goal.returns
unfolding line_at
returns c =
    rw (head_none (view c.args.gateway) c.args.place (length c.args.buffer.now) c.if-buffer-lt-ROOM.false (ap is_some (sym c.head.ensures) ∙ sym c.is_some.ensures ∙ c.if-is_some.false))
    (record { answer = ap {B = HandAnswer} Ok c.put_line.ensures.length; buffer = c.put_line.ensures.buffer })
