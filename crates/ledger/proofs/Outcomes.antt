-- What a used byte and a turn result in, each by a few cases: what changes, and what is answered. Assumes nothing.
use mathlib.Core.Path.{◌≡◌, refl, sym, subst}
use mathlib.Core.Bool.{Bool, true, false, cond}
use mathlib.Core.List.{List, [], ◌∷◌, ◌++◌}
use mathlib.Core.Option.{Option, none, some}
use Prim.Native.Nat.{ℕ}
use lib.ListN.{length}
use Rattle.tpck.specs.declared.event.Drop.{Drop}
use Rattle.tpck.specs.declared.event.Event.{Event}
use Rattle.tpck.specs.declared.event.Event.TheVariants as event
use Rattle.tpck.specs.Frame.{data_of}
use Rattle.tpck.specs.Receive as receive
use Rattle.devices.specs.declared.row.Row.{Row}
use Rattle.devices.specs.declared.field.Field.{Field}
use Rattle.devices.specs.Field.{Formed, same_field}
use Rattle.devices.specs.Table.{accepts, store}
use Rattle.updates.specs.declared.line.Line.{Line}
use Rattle.updates.specs.declared.update.Update.{Update}
use Rattle.updates.specs.Update.{line_in}
use Rattle.std.specs.Prelude as std
use Rattle.std.specs.Prelude.{Ok, Err}
use Rattle.updates.specs.Queue.{full as full_queue, waits, lacks_room, push_answer, pop, rotate}
use Rattle.dates.specs.Date.{ValidOrNA}
use Rattle.trpc.specs.declared.properties.Properties.{Properties}
use Rattle.trpc.specs.declared.judging.FrameError.{FrameError}
use Rattle.trpc.specs.declared.judging.Judged.{Judged}
use Rattle.trpc.specs.declared.judging.Judged.TheVariants as judged
use Rattle.trpc.specs.Judging.{judge}
use Rattle.trpc.specs.declared.judging.Subject.{Subject}
use Rattle.trpc.specs.declared.judging.Subject.TheVariants.{Own, Device}
use Rattle.trpc.specs.declared.methods.Entry.{Entry}
use Rattle.trpc.specs.declared.methods.OnUpdate.{OnUpdate}
use Rattle.trpc.specs.declared.methods.OnUpdate.TheVariants.{NotUsed, RepliesCurrent, SetsReporting, SetsDate, Queues}
use Rattle.trpc.specs.Bytes.{byte_at}
use Rattle.trpc.specs.Services.{is_update}
use Rattle.trpc.specs.Properties.{with_reporting, with_date, updated, after_record}
use Rattle.trpc.specs.Replies.{respond_gateway, respond_device, respond, confirm}
use Rattle.trpc.proofs.Asked.{asks_tells}
use Rattle.trpc.proofs.Kept.{respond_dated}
use Rattle.ledger.specs.Call.{Heard}
use Rattle.std.specs.Prelude.{None, Some}
use Rattle.gateway.specs.declared.answers.ByteRefusal.TheVariants as byte
use Rattle.gateway.specs.declared.answers.ByteAnswer.{ByteAnswer}
use Rattle.gateway.specs.declared.answers.ByteAnswer.TheVariants as answer
use Rattle.gateway.specs.declared.answers.TurnRefusal.TheVariants as turn
use Rattle.gateway.specs.declared.answers.TurnAnswer.{TurnAnswer}
use Rattle.gateway.specs.declared.answers.TurnAnswer.TheVariants.{Refused, Failed, Replied}
use Rattle.gateway.specs.State.{State, Effect, nothing, new_queue, new_properties, new_table_queue, Result}
use Rattle.gateway.specs.Reply.{on_line}
use Rattle.gateway.specs.Byte.{new_update, enqueue, admit_if, admit, reply_at_once, frame_judged, frame, byte_event}
use Rattle.gateway.specs.Turn.{stores, try_failed, try_confirmed, try_if, try_value, try_heard, turn_head, turn_queue, turn_in}
use Rattle.ledger.specs.Ledger.{Ask, ask_in, ask_at, stored_in}

-- ---- a byte

abbrev pub update_of : Ask → Update
update_of a = new_update a.line a.field a.value

-- the numbers of the gateway's properties that no record changes, in their order: network error, firmware, protocol
abbrev pub numbers_of : Properties → List ℕ
numbers_of p = p.error ∷ p.firmware ∷ p.protocol ∷ []

-- what a reply at once leaves of the properties
pub record Answered (p s : Properties) : Type 0 where
  pub dated : ValidOrNA p.date → ValidOrNA s.date
  pub numbers : numbers_of s ≡ numbers_of p

-- a used byte that completes this Update, or none, where this queue waits and the gateway has these properties
pub data Used (q : List Update) (p : Properties) : Option Ask → Effect → ByteAnswer → Type 0 where
  quiet : Used q p none nothing answer.Nothing
  dropped : (d : Drop) (n : ℕ) → Used q p none nothing (answer.Refused (byte.Dropped d n))
  rejected : (e : FrameError) → Used q p none nothing (answer.Refused (byte.Rejected e))
  replied : (s : Properties) (n : ℕ) → Answered p s → Used q p none (new_properties s) (answer.Replied n)
  again : (a : Ask) → waits q a.field ≡ true → Used q p (some a) nothing (answer.Refused byte.FieldWaits)
  full : (a : Ask) → waits q a.field ≡ false → lacks_room q (line_in (update_of a)) ≡ true → Used q p (some a) nothing (answer.Refused byte.QueueFull)
  queued : (a : Ask) → Formed a.field → waits q a.field ≡ false → lacks_room q (line_in (update_of a)) ≡ false
      → Used q p (some a) (new_queue (q ++ (update_of a ∷ []))) (answer.Queued (length (q ++ (update_of a ∷ []))))

updated_numbers : (p : Properties) (u : OnUpdate) (c : List ℕ) → numbers_of (updated p u c) ≡ numbers_of p
unfolding updated with_reporting with_date
updated_numbers p NotUsed c = refl
updated_numbers p RepliesCurrent c = refl
updated_numbers p SetsReporting c = refl
updated_numbers p SetsDate c = refl
updated_numbers p Queues c = refl

respond_numbers : (c : List ℕ) (e : Entry) (s : Subject) (p : Properties) (t : List Row) → numbers_of (respond c e s p t).properties ≡ numbers_of p
unfolding respond respond_gateway respond_device after_record
respond_numbers c e (Own m) p t = go (is_update (byte_at c 0))
  where
    go : (b : Bool) → numbers_of (cond b (updated p e.update c) p) ≡ numbers_of p
    go true = updated_numbers p e.update c
    go false = refl
respond_numbers c e (Device m i) p t = refl

answered : (c : List ℕ) (e : Entry) (s : Subject) (p : Properties) (t : List Row) → Answered p (respond c e s p t).properties
answered c e s p t = record { dated = respond_dated c e s p t; numbers = respond_numbers c e s p t }

abbrev Comes : State → Option Ask → Result ByteAnswer → Type 0
Comes g o x = Used g.queue g.properties o x.effect x.answer

module _ (g : State) where
  asked_comes : (a : Ask) (already : Bool) → Formed a.field → waits g.queue a.field ≡ already → Comes g (some a) (admit_if g.queue a.line a.field a.value already)
  unfolding admit_if enqueue push_answer
  asked_comes a true m w = again a w
  asked_comes a false m w = go (lacks_room g.queue (line_in (update_of a))) refl
    where
      go : (c : Bool) → lacks_room g.queue (line_in (update_of a)) ≡ c
          → Comes g (some a) (enqueue g.queue (update_of a) (cond c (Err full_queue) (Ok (length (g.queue ++ (update_of a ∷ []))))))
      go true e = full a w e
      go false e = queued a m w e

  frame_comes : (l : Line) (content : List ℕ) (j : std.Result Judged FrameError) → ((f : Field) (v : ℕ) → j ≡ Ok (judged.Asks f v) → Formed f) → Comes g (ask_in l j) (frame_judged g l content j)
  unfolding frame_judged admit reply_at_once
  frame_comes l content (Err e) m = rejected e
  frame_comes l content (Ok (judged.Asks f v)) m = asked_comes (record { line = l; field = f; value = v }) (waits g.queue f) (m f v refl) refl
  frame_comes l content (Ok (judged.Answers e s)) m =
      let x = respond content e s g.properties g.table in
      replied x.properties (length (on_line x.content)) (answered content e s g.properties g.table)

-- a byte of a line with room for a reply: what the event of the receiver's step results in
pub byte_used : (g : State) (l : Line) (s : receive.Step) → let x = byte_event g l s.next.body s.event in
    Used g.queue g.properties (ask_at g.table l s.next.body s.event) x.effect x.answer
unfolding byte_event frame
byte_used g l s = event_comes s.next.body s.event
  where
    event_comes : (body : List ℕ) (e : Event) → Comes g (ask_at g.table l body e) (byte_event g l body e)
    event_comes body event.Nothing = quiet
    event_comes body (event.Dropped d n) = dropped d n
    event_comes body (event.Frame ptype size) =
        let c = data_of body in
        frame_comes g l c (judge ptype c g.table) (λ f v e. (asks_tells c g.table f v ptype e).formed)

-- ---- a turn

-- a turn that names f and brings h, with a short buffer or not
pub data Turned (g : State) (f : Field) (h : Heard) : (short : Bool) → Effect → TurnAnswer → Type 0 where
  short : Turned g f h true nothing (Refused turn.Short)
  none_waits_lem : g.queue ≡ [] → Turned g f h false nothing (Refused turn.NoneWaits)
  not_head : (u : Update) (q : List Update) → g.queue ≡ u ∷ q → same_field f u.field ≡ false → Turned g f h false nothing (Refused turn.NotHead)
  failed : (u : Update) (q : List Update) → g.queue ≡ u ∷ q → same_field f u.field ≡ true → stores g.table f h ≡ false
      → Turned g f h false (new_queue (q ++ (u ∷ []))) Failed
  stored : (u : Update) (q : List Update) (n : ℕ) → g.queue ≡ u ∷ q → same_field f u.field ≡ true → stores g.table f h ≡ true
      → Turned g f h false (new_table_queue (stored_in g.table f h) q) (Replied (line_in u) n)

module _ (g : State) (f : Field) where
  abbrev Takes : Heard → (short : Bool) → Result TurnAnswer → Type 0
  Takes h c x = Turned g f h c x.effect x.answer

  module _ (u : Update) (q : List Update) (e : g.queue ≡ u ∷ q) (s : same_field f u.field ≡ true) where
    fails : (h : Heard) → stores g.table f h ≡ false → Takes h false (try_failed g)
    unfolding try_failed
    fails h n = subst (λ (l : List Update). Turned g f h false (new_queue (rotate l)) Failed) (sym e) (failed u q e s n)

    confirms : (v : ℕ) → stores g.table f (Some v) ≡ true → Takes (Some v) false (try_confirmed g (line_in u) f v)
    unfolding try_confirmed
    confirms v t =
        subst (λ (l : List Update). Turned g f (Some v) false (new_table_queue (store g.table f v) (pop l)) (Replied (line_in u) (length (on_line (confirm f v)))))
        (sym e)
        (stored u q (length (on_line (confirm f v))) e s t)

    tries : (h : Heard) → Takes h false (try_heard g (line_in u) f h)
    unfolding try_heard try_value try_if stores
    tries None = fails None refl
    tries (Some v) = go (accepts g.table f v) refl
      where
        go : (c : Bool) → accepts g.table f v ≡ c → Takes (Some v) false (try_if g (line_in u) f v c)
        go true t = confirms v t
        go false t = fails (Some v) t

  head_turned : (h : Heard) (u : Update) (q : List Update) (c : Bool) → g.queue ≡ u ∷ q → same_field f u.field ≡ c → Takes h false (turn_head g (line_in u) f h c)
  unfolding turn_head
  head_turned h u q false e s = not_head u q e s
  head_turned h u q true e s = tries u q e s h

  queue_turned : (h : Heard) (l : List Update) → g.queue ≡ l → Takes h false (turn_queue g f h l)
  unfolding turn_queue
  queue_turned h [] e = none_waits_lem e
  queue_turned h (u ∷ q) e = head_turned h u q (same_field f u.field) e refl

  pub turned : (h : Heard) (c : Bool) → Turned g f h c (turn_in g f h c).effect (turn_in g f h c).answer
  unfolding turn_in
  turned h true = short
  turned h false = queue_turned h g.queue refl
