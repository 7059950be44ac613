-- `interpreter::bytes::byte_call` meets its contract: bad, or the bytes are fed.
use Rattle.std.proofs.Common.{ℕ, replicate, refl, sym, ◌∙◌}
use lib.ListN.{length-replicate}
use Rattle.script.specs.Place.{place}
use Rattle.interpreter.specs.Calls.{byte_call}
use Rattle.interpreter.specs.Bytes.{bytes_done}
use Rattle.interpreter.specs.Limits.{longest}
use Rattle.interpreter.proofs.Tellings.{tells_good}
use Rattle.interpreter.proofs.Lent.{bytes_read}
use Rattle.interpreter.proofs.bytes.byte_call.Goals as goal

pub returns : goal.returns
unfolding byte_call bytes_done
returns c =
    let words = c.read_number-room.new.self in
    let bytes = bytes_read (replicate longest 0) (length-replicate {A = ℕ} longest 0) words.line.now (place words) (sym c.read_bytes.ensures.count ∙ c.in-Ok.is) c.read_bytes.ensures.bytes c.take.ensures in
    let on = c.read_line-on.ensures in
    let room = c.read_number-room.ensures.reads in
    tells_good _ c.args.gateway.now _ _ _ _ _ (rw (room.1, on.1) at bytes.0) refl refl
    (rw (rw (room.1, on.1) at bytes.1, room.0, on.1, on.0) at c.bytes_done.ensures)
