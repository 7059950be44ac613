-- `transfer::writer::content_at` meets its contract: of a value, or of the row that the quotient names.
use mathlib.Core.Path.{sym, ap, ◌∙◌}
use Prim.Native.Nat.{◌+◌, ◌-◌, ◌%◌}
use Rattle.devices.specs.declared.row.Row.{Row}
use Rattle.devices.specs.Table.{rows_of}
use Rattle.trpc.specs.Replies.{reply_of}
use Rattle.transfer.specs.Slots.{slot_at}
use Rattle.transfer.specs.Contents.{draft, content_of}
use Rattle.transfer.proofs.Placing.{place_of_value, place_of_row}
use Rattle.transfer.proofs.writer.content_at.Goals as goal

pub returns-then-place-lt5 : goal.returns-then-place-lt5
returns-then-place-lt5 c = let row = c.at-row.result in
    let a = c.args in
    c.content_of.ensures
    ∙ ap reply_of (ap (content_of (draft a.properties row)) c.slot_at.ensures ∙ sym (place_of_value a.properties (rows_of a.table) a.place row c.if-place-lt5.true))

pub returns : goal.returns
returns c = let a = c.args in
    c.content_of-2.ensures
    ∙ ap reply_of (ap (content_of (draft a.properties c.at-row-2.result)) c.slot_at-2.ensures
    ∙ ap (λ (r : Row). content_of (draft a.properties r) (slot_at (5 + (a.place - 5) % 26))) c.at-row-2.ensures
    ∙ sym (place_of_row a.properties (rows_of a.table) a.place c.if-place-lt5.false c.requires))
