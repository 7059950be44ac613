-- `blocks::answering::answer` meets its contract: what is asked for decides.
use mathlib.Core.Path.{sym}
use Rattle.trpc.specs.Replies.{respond_gateway}
use Rattle.blocks.specs.declared.parts.Moving.{Moving}
use Rattle.blocks.specs.Answer.{outcome, answer}
use Rattle.blocks.proofs.Outcomes.{own_few, replies_sent}
use Rattle.blocks.proofs.answering.answer.Goals as goal

pub returns-in-Own : goal.returns-in-Own
unfolding outcome answer
returns-in-Own c = let a = c.args in
    let parts : Moving = record { control = a.reached.control; queue = a.moving.queue; properties = a.moving.properties } in
    let content = c.content_in-content.result.now in
    let x = respond_gateway content c.in-Own.entry c.in-Own.method a.moving.properties in
    let few = own_few content c.in-Own.entry a.moving.properties c.in-Own.method in
    let sent = replies_sent x few c.respond_gateway-responded.result c.respond_gateway-responded.ensures parts a.line a.area.now _ _ (c.sending.ensures.answered, c.sending.ensures.area) in
    rw (c.in-Own.is, sym c.content_in-content.ensures) (record { answered = sent.0; area = sent.1 })
