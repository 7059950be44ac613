-- `blocks::answering::by_row` meets its contract: the judgement of the row decides.
use mathlib.Core.Path.{sym}
use Rattle.trpc.specs.Replies.{respond_device}
use Rattle.blocks.specs.Answer.{row_outcome}
use Rattle.blocks.proofs.Outcomes.{row_few, replies_sent}
use Rattle.blocks.proofs.answering.by_row.Goals as goal

pub returns-in-Ok-Answers : goal.returns-in-Ok-Answers
unfolding row_outcome
returns-in-Ok-Answers c = let a = c.args in
    let x = respond_device a.content.now a.entry a.method a.moving.properties a.row in
    let few = row_few a.content.now a.entry a.moving.properties a.method a.row in
    let sent = replies_sent x few c.respond_device-responded.result c.respond_device-responded.ensures a.moving a.line a.area.now _ _ (c.sending.ensures.answered, c.sending.ensures.area) in
    rw (sym c.judge_row.ensures, c.in-Ok-Answers.is, c.in-Ok-Answers.field-0-is) (record { answered = sent.0; area = sent.1 })
