-- `transcript::state::put_updates` meets its contract: what is put so far are the lines of the updates passed.
use Rattle.std.proofs.Common.{take}
use Rattle.text.specs.Place.{Puts}
use Rattle.text.specs.Texts.{texts}
use Rattle.transcript.specs.State.{update_text}
use Rattle.transcript.proofs.state.put_updates.Given as goal

abbrev pub invariant-loop-update : goal.invariant-loop-update
invariant-loop-update l = Puts (texts update_text (take l.update-index l.update-items)) l.initial.text l.text
