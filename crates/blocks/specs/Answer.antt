-- The answer to an event by the row that decides (document 01, "From frame to answer", from check 14 on).
use Rattle.std.specs.Prelude.{ℕ, List, get_or, Result, Ok, Err}
use Rattle.tpck.specs.Write as write
use Rattle.devices.specs.declared.field.Field.{Field}
use Rattle.devices.specs.declared.row.Row.{Row}
use Rattle.updates.specs.declared.line.Line.{Line}
use Rattle.updates.specs.Queue.{waiting}
use Rattle.trpc.specs.declared.methods.Entry.{Entry}
use Rattle.trpc.specs.declared.methods.DeviceMethod.{DeviceMethod}
use Rattle.trpc.specs.declared.properties.Properties.{Properties}
use Rattle.trpc.specs.declared.planning.RowJudged.{RowJudged}
use Rattle.trpc.specs.declared.planning.RowJudged.TheVariants as rows
use Rattle.trpc.specs.declared.judging.FrameError.{FrameError}
use Rattle.trpc.specs.Judging.{record_type}
use Rattle.trpc.specs.Planning.{judge_row}
use Rattle.trpc.specs.declared.replies.Responded.{Responded}
use Rattle.trpc.specs.Replies.{Response, respond_gateway, respond_device}
use Rattle.gateway.specs.declared.answers.ByteRefusal.TheVariants.{Rejected}
use Rattle.gateway.specs.declared.answers.ByteAnswer.{ByteAnswer}
use Rattle.gateway.specs.declared.answers.ByteAnswer.TheVariants.{Nothing, Refused, Replied}
use Rattle.gateway.specs.Byte.{admit}
use Rattle.gateway.specs.Reply.{bytes_of, sent}
use Rattle.gateway.specs.Results.{admitted}
use Rattle.blocks.specs.declared.parts.Moving.{Moving}
use Rattle.blocks.specs.declared.reaching.Asked.{Asked}
use Rattle.blocks.specs.declared.reaching.Asked.TheVariants as asked
use Rattle.blocks.specs.declared.reaching.Reached.{Reached}
use Rattle.blocks.specs.declared.answering.Answered.{Answered}
use Rattle.blocks.specs.Reach.{content_in}

-- ---- by the row

-- (01) what an event comes to: an answer that is told, an update to be queued, or a reply at once
pub data Outcome : Type 0 where
  Told : ByteAnswer → Outcome
  Asks : Field → (value : ℕ) → Outcome
  Replies : Response → Outcome

-- (01) a record for a device, by the judgement of its row: 14, an update to be queued, or a reply
unfoldable pub row_outcome : Result RowJudged FrameError → Entry → DeviceMethod → Row → List ℕ → Properties → Outcome
row_outcome (Err x) e m r c p = Told (Refused (Rejected x))
row_outcome (Ok (rows.Asks f v)) e m r c p = Asks f v
row_outcome (Ok rows.Answers) e m r c p = Replies (respond_device c e m p r)

-- (01) what is asked for, by the row that decides, the data of the frame and the properties
unfoldable pub outcome : Asked → Row → List ℕ → Properties → Outcome
outcome asked.Nothing r c p = Told Nothing
outcome (asked.Refused e) r c p = Told (Refused e)
outcome (asked.Own e m) r c p = Replies (respond_gateway c e m p)
outcome (asked.Device e m) r c p = row_outcome (judge_row r m c) e m r c p

-- ---- as the code has it: a reply is written to what is left of the area

-- (01) an update that is asked for: 15, 16, or queued
abbrev pub settle : Moving → Line → Field → ℕ → Answered
settle m l f v =
    let x = admitted m.queue (admit (waiting m.queue) l f v) in
    record { moving = record { control = m.control; queue = x.queue; properties = m.properties }; answer = x.answer }

-- (ours) a reply of this length, with the properties after it
abbrev pub replying : Moving → Properties → ℕ → Answered
replying m p n = record { moving = record { control = m.control; queue = m.queue; properties = p }; answer = Replied n }

-- (ours) the struct of a response, sent to an area
abbrev pub sending : Moving → Responded → (area : List ℕ) → Answered
sending m x area = replying m x.properties (sent x.reply area)

-- (01) the parts after an outcome, and the answer: an answer that is told changes none
abbrev pub ruled : Outcome → Moving → Line → (area : List ℕ) → Answered
ruled (Told a) m l area = record { moving = m; answer = a }
ruled (Asks f v) m l area = settle m l f v
ruled (Replies x) m l area = replying m x.properties (bytes_of (write.write record_type x.content area))

-- (ours) what the area then holds
abbrev pub area_left : Outcome → (area : List ℕ) → List ℕ
area_left (Told a) area = area
area_left (Asks f v) area = area
area_left (Replies x) area = write.buffer record_type x.content area

-- (ours) what the event of some bytes comes to: the frame's data stand in the body, whose first byte is their number
abbrev pub outcome_of : Reached → Row → (body : List ℕ) → Properties → Outcome
outcome_of x r body p = outcome x.asked r (content_in (get_or body 0 0) body) p

-- (01) the answer to the event of some bytes, by the row that decides
unfoldable pub answer : Moving → Line → Reached → Row → (body area : List ℕ) → Answered
answer m l x r body area = ruled (outcome_of x r body m.properties) (record { control = x.control; queue = m.queue; properties = m.properties }) l area
