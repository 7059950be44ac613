-- `transcript::state::put_rows` meets its contract: what is put so far are the lines of the rows passed.
use Rattle.std.proofs.Common.{take}
use Rattle.text.specs.Place.{Puts}
use Rattle.text.specs.Texts.{texts}
use Rattle.transcript.specs.State.{row_text}
use Rattle.transcript.proofs.state.put_rows.Given as goal

abbrev pub invariant-loop-row : goal.invariant-loop-row
invariant-loop-row l = Puts (texts row_text (take l.row-index l.row-items)) l.initial.text l.text
