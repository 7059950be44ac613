-- `interpreter::calls::turn_call` meets its contract: bad, or the turn is made.
use Rattle.std.proofs.Common.{refl, sym, ◌∙◌, ap, is_ok}
use Rattle.interpreter.specs.Calls.{turn_call}
use Rattle.interpreter.proofs.Tellings.{tells_good}
use Rattle.interpreter.proofs.calls.turn_call.Goals as goal

pub returns : goal.returns
unfolding turn_call
returns c =
    let room = c.read_number-room.ensures.reads in
    let field = c.read_field-field.ensures in
    let heard = c.read_heard-heard.ensures in
    let good = rw (heard.1, field.1, room.1) at c.end.ensures in
    tells_good _ c.args.gateway.now _ _ _ _ _ (sym good ∙ ap is_ok c.in_ok-end.was) refl refl
    (rw (heard.0, field.1, field.0, room.1, room.0) at c.turn_done.ensures)
