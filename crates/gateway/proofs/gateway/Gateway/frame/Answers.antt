-- `gateway::Gateway::frame` meets its contract: an update that is asked for has no reply, so that the buffer stays.
use mathlib.Core.Path.{◌≡◌, sym}
use Rattle.std.specs.Prelude.{Ok}
use Rattle.lists.proofs.Overlays.{overlay_nil}
use Rattle.trpc.specs.declared.judging.Judged.TheVariants.{Asks}
use Rattle.trpc.specs.Judging.{judge}
use Rattle.gateway.specs.View.{view}
use Rattle.gateway.specs.Byte.{frame, frame_judged}
use Rattle.gateway.proofs.Bytes.{admit_reply}
use Rattle.gateway.proofs.gateway.Gateway.frame.Goals as goal

pub returns-in-Ok-Asks-clause-buffer : goal.returns-in-Ok-Asks-clause-buffer
unfolding frame frame_judged
returns-in-Ok-Asks-clause-buffer c =
    let a = c.args in
    let judged : judge a.ptype a.content.now (view a.self.now).table ≡ Ok (Asks c.in-Ok-Asks.field c.in-Ok-Asks.value) = cc in
    rw (judged, admit_reply (view a.self.now) a.line c.in-Ok-Asks.field c.in-Ok-Asks.value) (sym (overlay_nil a.buffer.now))
