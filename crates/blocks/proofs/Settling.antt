-- What the code hands back of an event: the parts of the gateway that its result changes, its answer, and the area with its reply.
-- Assumes nothing.
use Prim.Native.Nat.{ℕ, ◌≤◌}
use mathlib.Core.Path.{◌≡◌, refl, sym, ap, ◌∙◌}
use mathlib.Core.Bool.{Bool, true, false}
use mathlib.Core.List.{List}
use mathlib.Core.Option.{Option, none}
use lib.ListN.{length}
use Rattle.lists.specs.Overlay.{overlay}
use Rattle.lists.proofs.Overlays.{overlay_nil}
use Rattle.std.specs.Prelude as std
use Rattle.std.specs.Prelude.{Ok, Err}
use Rattle.tpck.specs.declared.writer.Refusal.{Refusal}
use Rattle.devices.specs.declared.field.Field.{Field}
use Rattle.devices.specs.declared.row.Row.{Row}
use Rattle.updates.specs.declared.line.Line.{Line}
use Rattle.updates.specs.declared.update.Update.{Update}
use Rattle.updates.specs.declared.queue.QueueFull.{QueueFull}
use Rattle.updates.specs.Queue.{waiting, waits, push_answer}
use Rattle.trpc.specs.declared.properties.Properties.{Properties}
use Rattle.trpc.specs.declared.judging.FrameError.{FrameError}
use Rattle.trpc.specs.declared.planning.RowJudged.{RowJudged}
use Rattle.trpc.specs.declared.planning.RowJudged.TheVariants as rows
use Rattle.trpc.specs.declared.methods.Entry.{Entry}
use Rattle.trpc.specs.declared.methods.DeviceMethod.{DeviceMethod}
use Rattle.trpc.specs.Planning.{judge_row}
use Rattle.gateway.specs.declared.gateway.Gateway.{Gateway}
use Rattle.gateway.specs.declared.answers.ByteAnswer.{ByteAnswer}
use Rattle.gateway.specs.declared.answers.ByteAnswer.TheVariants as says
use Rattle.gateway.specs.State.{Result, or_else}
use Rattle.gateway.specs.Reply.{room, bytes_of}
use Rattle.gateway.specs.Byte.{new_update, enqueue, admit_if, admit}
use Rattle.gateway.specs.View.{put_table, put_queue, view}
use Rattle.gateway.proofs.Bytes.{admit_reply}
use Rattle.gateway.proofs.Replies.{reply_written, reply_left}
use Rattle.tpck.specs.declared.control.Control.{Control}
use Rattle.blocks.specs.declared.parts.Moving.{Moving}
use Rattle.blocks.specs.declared.reaching.Asked.{Asked}
use Rattle.blocks.specs.declared.reaching.Asked.TheVariants as asked
use Rattle.blocks.specs.Answer.{Outcome, row_outcome, outcome, ruled, area_left}
use Rattle.blocks.specs.Answer.Outcome.{Told, Asks, Replies}
use Rattle.blocks.proofs.Outcomes.{own_few, row_few}
use Rattle.blocks.proofs.Deciding.{comes_to}

-- ---- the data of a reply are at most twelve bytes

abbrev pub Few : Outcome → Type 0
Few (Told a) = Unit {0}
Few (Asks f v) = Unit {0}
Few (Replies x) = length x.content ≤ 12

module _ (r : Row) (c : List ℕ) (p : Properties) where
  judged_few : (e : Entry) (m : DeviceMethod) (j : std.Result RowJudged FrameError) → Few (row_outcome j e m r c p)
  unfolding row_outcome
  judged_few e m (Err x) = tt
  judged_few e m (Ok (rows.Asks f v)) = tt
  judged_few e m (Ok rows.Answers) = row_few c e p m r

  pub outcome_few : (a : Asked) → Few (outcome a r c p)
  unfolding outcome
  outcome_few asked.Nothing = tt
  outcome_few (asked.Refused e) = tt
  outcome_few (asked.Own e m) = own_few c e p m
  outcome_few (asked.Device e m) = judged_few e m (judge_row r m c)

-- ---- an update that is asked for changes the queue alone

abbrev QueueAlone : Result ByteAnswer → Type 0
QueueAlone x = (x.effect.table ≡ none) × (x.effect.properties ≡ none)

enqueue_alone : (q : List Update) (u : Update) (a : std.Result ℕ QueueFull) → QueueAlone (enqueue q u a)
unfolding enqueue
enqueue_alone q u (Ok n) = (refl, refl)
enqueue_alone q u (Err e) = (refl, refl)

admit_alone : (q : List Update) (l : Line) (f : Field) (v : ℕ) → QueueAlone (admit q l f v)
unfolding admit admit_if
admit_alone q l f v = go (waits q f)
  where
    go : (already : Bool) → QueueAlone (admit_if q l f v already)
    go true = (refl, refl)
    go false = enqueue_alone q (new_update l f v) (push_answer q (new_update l f v))

-- ---- by the outcome

module _ (g : Gateway) (l : Line) where
  pub table_stays : (o : Outcome) → put_table g.table (comes_to (view g) l o).effect.table ≡ g.table
  table_stays (Told a) = refl
  table_stays (Asks f v) = ap (λ (t : Option (List Row)). put_table g.table t) (admit_alone (waiting g.queue) l f v).0
  table_stays (Replies x) = refl

  module _ (c : Control) (area : List ℕ) where
    -- the parts of the gateway, with the receiver at c
    abbrev parts : Moving
    parts = record { control = c; queue = g.queue; properties = g.properties }

    pub control_kept : (o : Outcome) → (ruled o parts l area).moving.control ≡ c
    control_kept (Told a) = refl
    control_kept (Asks f v) = refl
    control_kept (Replies x) = refl

    pub queue_settled : (o : Outcome) → (ruled o parts l area).moving.queue ≡ put_queue g.queue (comes_to (view g) l o).effect.queue
    queue_settled (Told a) = refl
    queue_settled (Asks f v) = refl
    queue_settled (Replies x) = refl

    pub properties_ruled : (o : Outcome) → (ruled o parts l area).moving.properties ≡ or_else g.properties (comes_to (view g) l o).effect.properties
    properties_ruled (Told a) = refl
    properties_ruled (Asks f v) = ap (λ (p : Option Properties). or_else g.properties p) (sym (admit_alone (waiting g.queue) l f v).1)
    properties_ruled (Replies x) = refl

    module _ (long : room ≤ length area) where
      pub answer_told : (o : Outcome) → Few o → (ruled o parts l area).answer ≡ (comes_to (view g) l o).answer
      answer_told (Told a) few = refl
      answer_told (Asks f v) few = refl
      answer_told (Replies x) few = ap (λ (w : std.Result ℕ Refusal). says.Replied (bytes_of w)) (reply_written x.content few area long)

      pub area_left_lem : (o : Outcome) → Few o → area_left o area ≡ overlay (comes_to (view g) l o).reply area
      area_left_lem (Told a) few = sym (overlay_nil area)
      area_left_lem (Asks f v) few = sym (ap (λ (k : List ℕ). overlay k area) (admit_reply (view g) l f v) ∙ overlay_nil area)
      area_left_lem (Replies x) few = reply_left x.content few area long
