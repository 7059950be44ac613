-- `tpck::receiver::Receiver::receive` meets its contract: each meaning of the byte is a case of the step.
use Rattle.std.proofs.Common.{sym, ◌∙◌}
use Rattle.tpck.specs.declared.receiver.Meaning.TheVariants.{Escape, Start, End, Plain}
use Rattle.tpck.proofs.Steps.{received_by}
use Rattle.tpck.proofs.receiver.Receiver.receive.Goals as goal

pub returns-in-Escape : goal.returns-in-Escape
returns-in-Escape c = received_by c.args.self c.args.b Escape (sym c.meaning_of.ensures ∙ c.in-Escape.is) c.escape-event.ensures.next c.escape-event.ensures.event

pub returns-in-Start : goal.returns-in-Start
returns-in-Start c = received_by c.args.self c.args.b Start (sym c.meaning_of.ensures ∙ c.in-Start.is) c.start_of_frame-event.ensures.next c.start_of_frame-event.ensures.event

pub returns-in-End : goal.returns-in-End
returns-in-End c = received_by c.args.self c.args.b End (sym c.meaning_of.ensures ∙ c.in-End.is) c.end_of_frame-event.ensures.next c.end_of_frame-event.ensures.event

pub returns-in-Plain : goal.returns-in-Plain
returns-in-Plain c = received_by c.args.self c.args.b Plain (sym c.meaning_of.ensures ∙ c.in-Plain.is) c.plain_data-event.ensures.next c.plain_data-event.ensures.event
