-- `transcript::fields::put_fields` meets its contract: after the first field, what is put so far are those passed.
use Rattle.std.proofs.Common.{take}
use Rattle.text.specs.Place.{Puts}
use Rattle.text.specs.Texts.{texts}
use Rattle.transcript.specs.Fields.{next_text}
use Rattle.transcript.proofs.fields.put_fields.Given as goal

abbrev pub invariant-loop-named : goal.invariant-loop-named
invariant-loop-named l = Puts (texts next_text (take l.named-index l.more)) l.initial.text l.text
