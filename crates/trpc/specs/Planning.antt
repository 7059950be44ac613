-- The judgement of a frame in two parts: its plan by the content, and where it is for a device by a row (01, "From frame to answer").
-- Both together are `judge`: proved in proofs/Planned.antt.
use Rattle.std.specs.Prelude.{ℕ, List, [], take, Option, Some, None, Result, Ok, Err}
use Rattle.std.specs.List as list
use Rattle.devices.specs.declared.row.Row.{Row}
use Rattle.devices.specs.Table.{find, row_at}
use Rattle.trpc.specs.Bytes.{word_at}
use Rattle.trpc.specs.Methods.{mode_setting}
use Rattle.trpc.specs.Judging.{entry_in, breaks, checks, refused_or, judge_device}
use Rattle.trpc.specs.declared.methods.Entry.{Entry}
use Rattle.trpc.specs.declared.methods.Method.{Method}
use Rattle.trpc.specs.declared.methods.Method.TheVariants.{OfGateway, OfDevice}
use Rattle.trpc.specs.declared.methods.DeviceMethod.{DeviceMethod}
use Rattle.trpc.specs.declared.methods.DeviceMethod.TheVariants.{ModeSetting}
use Rattle.trpc.specs.declared.judging.FrameError.{FrameError}
use Rattle.trpc.specs.declared.judging.FrameError.TheVariants.{UnknownMethod, UnknownAddress}
use Rattle.trpc.specs.declared.judging.Subject.TheVariants.{Own, Device}
use Rattle.trpc.specs.declared.judging.Judged.{Judged}
use Rattle.trpc.specs.declared.judging.Judged.TheVariants.{Asks, Answers}
use Rattle.trpc.specs.declared.planning.Planned.{Planned}
use Rattle.trpc.specs.declared.planning.Planned.TheVariants as planned
use Rattle.trpc.specs.declared.planning.RowJudged.{RowJudged}
use Rattle.trpc.specs.declared.planning.RowJudged.TheVariants as rows

-- ---- by the content

-- (01) whom a record is for, by its method: the gateway itself, or the device with the address in front of its fields
abbrev pub plan_for : Entry → List ℕ → Method → Planned
plan_for e c (OfGateway m) = planned.Own e m
plan_for e c (OfDevice m) = planned.Device e m (word_at c 5)

-- (01) the same by the entry of its method; with no entry it is 10 (ours: `breaks` refuses it before)
abbrev pub plan_of : Option Entry → List ℕ → Result Planned FrameError
plan_of None c = Err UnknownMethod
plan_of (Some e) c = Ok (plan_for e c e.method)

-- (01) the first of these checks that the frame breaks, else whom it is for; no rows are at hand, so it is for checks that look at none
-- (ours)
unfoldable pub plan_from : List FrameError → ℕ → List ℕ → Result Planned FrameError
plan_from l ptype c = refused_or (list.find (breaks ptype c []) l) (plan_of (entry_in c) c)

-- (01) the plan of a frame's type and content: the checks 7 to 12 in their order, then whom it is for
unfoldable pub plan : ℕ → List ℕ → Result Planned FrameError
plan ptype c = plan_from (take 6 checks) ptype c

-- ---- by the row

-- (ours) a judgement taken on to another; a refusal stays
abbrev pub passed_on : {A B : Type 0} → (A → B) → Result A FrameError → Result B FrameError
passed_on f (Ok j) = Ok (f j)
passed_on f (Err x) = Err x

-- (ours) a judgement without the entry and the subject of an answer at once, which the caller has
abbrev pub row_part : Judged → RowJudged
row_part (Asks f v) = rows.Asks f v
row_part (Answers e s) = rows.Answers

-- (ours) some answer at once: 14 and the steps only hand it through, so that any other would do (`row_judged_lem`)
abbrev pub at_once : Judged
at_once = Answers mode_setting (Device ModeSetting 0)

-- (01) the judgement of a record to a device, by its row: 14, then steps 1 and 2
unfoldable pub judge_row : Row → DeviceMethod → List ℕ → Result RowJudged FrameError
judge_row r m c = passed_on row_part (judge_device at_once r m c)

-- ---- both together

-- (ours) the judgement of a frame by that of its row and the answer at once
abbrev pub row_judged : RowJudged → (answer : Judged) → Judged
row_judged (rows.Asks f v) answer = Asks f v
row_judged rows.Answers answer = answer

-- (01) 13 where no row has the address, else the judgement of the row that was found
abbrev pub judged_at : Entry → DeviceMethod → List ℕ → List Row → Option ℕ → Result Judged FrameError
judged_at e m c t None = Err UnknownAddress
judged_at e m c t (Some i) = passed_on (λ j. row_judged j (Answers e (Device m i))) (judge_row (row_at t i) m c)

-- (ours) what the plan, the search for the row and the judgement of the row come to
abbrev pub judged_by : Result Planned FrameError → List ℕ → List Row → Result Judged FrameError
judged_by (Err x) c t = Err x
judged_by (Ok (planned.Own e m)) c t = Ok (Answers e (Own m))
judged_by (Ok (planned.Device e m a)) c t = judged_at e m c t (find t a)
