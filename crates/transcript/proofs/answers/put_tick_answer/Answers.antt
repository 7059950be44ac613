-- `transcript::answers::put_tick_answer` meets its contract: no line where no field is listed, else its five parts.
use mathlib.Core.Path.{◌≡◌, sym, ◌∙◌}
use mathlib.Core.List.{◌∷◌}
use Rattle.text.proofs.Places.{puts_then}
use Rattle.transcript.specs.Answers.{list_of}
use Rattle.transcript.proofs.answers.put_tick_answer.Goals as goal

pub returns-in-Some : goal.returns-in-Some
returns-in-Some c =
    let listed : list_of c.args.fields ≡ c.in-Some.field-0-0.now ∷ c.in-Some.more.now = sym c.take.ensures ∙ c.in-Some.ensures.cases.0 in
    rw listed
    (puts_then (puts_then (puts_then c.put.ensures c.put_number.ensures) (puts_then c.put_byte.ensures c.put_fields.ensures)) c.put_byte-in-Some.ensures)
