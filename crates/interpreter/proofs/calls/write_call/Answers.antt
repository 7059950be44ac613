-- `interpreter::calls::write_call` meets its contract: bad, or the frame is written.
use Rattle.std.proofs.Common.{ℕ, replicate, refl, sym, ◌∙◌}
use lib.ListN.{length-replicate}
use Rattle.script.specs.Place.{place}
use Rattle.interpreter.specs.Calls.{write_call}
use Rattle.interpreter.specs.Limits.{longest}
use Rattle.interpreter.proofs.Tellings.{tells_good}
use Rattle.interpreter.proofs.Lent.{bytes_read}
use Rattle.interpreter.proofs.calls.write_call.Goals as goal

pub returns : goal.returns
unfolding write_call
returns c =
    let words = c.read_u8-ptype.new.self in
    let bytes = bytes_read (replicate longest 0) (length-replicate {A = ℕ} longest 0) words.line.now (place words) (sym c.read_bytes.ensures.count ∙ c.in-Ok.is) c.read_bytes.ensures.bytes c.take.ensures in
    let room = c.read_number-room.ensures.reads in
    let ptype = c.read_u8-ptype.ensures in
    tells_good _ c.args.gateway.now _ _ _ _ _ (rw (ptype.1, room.1) at bytes.0) refl refl
    (refl, rw (rw (ptype.1, room.1) at bytes.1, ptype.0, room.1, room.0) at c.write_said.ensures)
