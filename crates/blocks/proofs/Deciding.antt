-- What the code decides of an event, by the row alone, is what the byte's event comes to. Assumes nothing.
use Prim.Native.Nat.{ℕ, ◌≤◌, ◌<◌}
use mathlib.Core.Path.{◌≡◌, refl, sym, ap, ◌∙◌}
use mathlib.Core.List.{List}
use native.Mathlib.Omega.{arith}
use lib.ListN.{length, get_or, length-take}
use lib.Seq.{get_or-take}
use Rattle.tpck.specs.declared.event.Event.{Event}
use Rattle.tpck.specs.declared.event.Event.TheVariants as event
use Rattle.tpck.specs.declared.receiver.Receiver.{Receiver}
use Rattle.tpck.specs.Receive as receive
use Rattle.tpck.specs.Scan.{Scan, scan}
use Rattle.tpck.proofs.Delivered.{scan_delivered, data_read}
use Rattle.devices.specs.declared.row.Row.{Row}
use Rattle.std.specs.Prelude as std
use Rattle.std.specs.Prelude.{Some, None, Ok, Err}
use Rattle.devices.specs.Table.{find, find_address, row_at}
use Rattle.devices.proofs.Addresses.{address_inside}
use Rattle.updates.specs.declared.line.Line.{Line}
use Rattle.trpc.specs.declared.methods.Entry.{Entry}
use Rattle.trpc.specs.declared.methods.DeviceMethod.{DeviceMethod}
use Rattle.trpc.specs.declared.judging.Subject.TheVariants.{Device}
use Rattle.trpc.specs.declared.judging.FrameError.{FrameError}
use Rattle.trpc.specs.declared.judging.Judged.{Judged}
use Rattle.trpc.specs.declared.judging.Judged.TheVariants as judged
use Rattle.trpc.specs.declared.planning.Planned.{Planned}
use Rattle.trpc.specs.declared.planning.Planned.TheVariants as planned
use Rattle.trpc.specs.declared.planning.RowJudged.{RowJudged}
use Rattle.trpc.specs.declared.planning.RowJudged.TheVariants as rows
use Rattle.trpc.specs.declared.properties.Properties.{Properties}
use Rattle.trpc.specs.Planning.{plan, judge_row, row_judged, passed_on, judged_at, judged_by}
use Rattle.trpc.specs.Replies.{respond}
use Rattle.trpc.proofs.Plans.{judge_planned}
use Rattle.gateway.specs.declared.answers.ByteAnswer.{ByteAnswer}
use Rattle.gateway.specs.State.{State, nothing, Result, result}
use Rattle.gateway.specs.Byte.{admit, reply_with, reply_at_once, frame_judged, frame, byte_event}
use Rattle.blocks.specs.declared.reaching.Asked.TheVariants as asked
use Rattle.blocks.specs.declared.reaching.Want.{Want}
use Rattle.blocks.specs.Reach.{content_in, wanted_at, wanted_by, wanted}
use Rattle.blocks.specs.Answer.{Outcome, row_outcome, outcome}
use Rattle.blocks.specs.Answer.Outcome.{Told, Asks, Replies}

module _ (g : State) (l : Line) where
  -- what an outcome is of the state
  abbrev pub comes_to : Outcome → Result ByteAnswer
  comes_to (Told a) = result nothing a
  comes_to (Asks f v) = admit g.queue l f v
  comes_to (Replies x) = reply_with x

  -- ---- a record for a device

  module _ (e : Entry) (m : DeviceMethod) (c : List ℕ) (i : ℕ) where
    row_decides : (j : std.Result RowJudged FrameError) → frame_judged g l c (passed_on (λ k. row_judged k (judged.Answers e (Device m i))) j) ≡ comes_to (row_outcome j e m (row_at g.table i) c g.properties)
    unfolding frame_judged row_outcome reply_at_once respond
    row_decides (Err x) = refl
    row_decides (Ok (rows.Asks f v)) = refl
    row_decides (Ok rows.Answers) = refl

  -- ---- a frame, where the addresses find what the rows do

  module _ (addresses : List ℕ) (same : (a : ℕ) → find g.table a ≡ find_address addresses a) (c : List ℕ) where
    -- the row that decides: the one at the place that was found
    abbrev decided : Want → Outcome
    decided w = outcome w.asked (row_at g.table w.place) c g.properties

    place_decides : (e : Entry) (m : DeviceMethod) (f : std.Option ℕ) → frame_judged g l c (judged_at e m c g.table f) ≡ comes_to (decided (wanted_at e m f))
    unfolding frame_judged outcome
    place_decides e m (Some i) = row_decides e m c i (judge_row (row_at g.table i) m c)
    place_decides e m None = refl

    plan_decides : (p : std.Result Planned FrameError) → frame_judged g l c (judged_by p c g.table) ≡ comes_to (decided (wanted_by p addresses))
    unfolding frame_judged wanted_by outcome reply_at_once respond
    plan_decides (Err x) = refl
    plan_decides (Ok (planned.Own e m)) = refl
    plan_decides (Ok (planned.Device e m a)) =
        ap (λ (f : std.Option ℕ). frame_judged g l c (judged_at e m c g.table f)) (same a) ∙ place_decides e m (find_address addresses a)

    frame_decides : (ptype : ℕ) → frame g l ptype c ≡ comes_to (decided (wanted_by (plan ptype c) addresses))
    unfolding frame
    frame_decides ptype = ap (λ (j : std.Result Judged FrameError). frame_judged g l c j) (judge_planned ptype c g.table) ∙ plan_decides (plan ptype c)

  -- ---- the event of a scan

  module _ (addresses : List ℕ) (same : (a : ℕ) → find g.table a ≡ find_address addresses a) (r : Receiver) (bytes : List ℕ) where
    abbrev s : Scan
    s = scan r bytes

    abbrev body : List ℕ
    body = s.next.bytes

    abbrev want : Want
    want = wanted s.event body addresses

    pub event_decides : byte_event g l (receive.view s.next).body s.event ≡ comes_to (outcome want.asked (row_at g.table want.place) (content_in (get_or body 0 0) body) g.properties)
    unfolding byte_event wanted outcome
    event_decides = go s.event refl
      where
        go : (v : Event) → (scan r bytes).event ≡ v
            → byte_event g l (receive.view (scan r bytes).next).body v
            ≡ comes_to (outcome (wanted v (scan r bytes).next.bytes addresses).asked (row_at g.table (wanted v (scan r bytes).next.bytes addresses).place) (content_in (get_or (scan r bytes).next.bytes 0 0) (scan r bytes).next.bytes) g.properties)
        go event.Nothing e = refl
        go (event.Dropped d n) e = refl
        go (event.Frame ptype size) e =
            let next = (scan r bytes).next in
            let full = scan_delivered ptype size r bytes e in
            let some : 0 < next.len = omega (arith, full.whole, length-take next.len next.bytes) in
            let first : get_or next.bytes 0 0 ≡ size = sym (full.size_is ∙ get_or-take next.len next.bytes 0 0 some) in
            let c = content_in size next.bytes in
            let w = wanted_by (plan ptype c) addresses in
            ap (λ (d : List ℕ). frame g l ptype d) (sym (data_read ptype size next.len next.bytes full)) ∙ frame_decides addresses same c ptype
            ∙ ap (λ (n : ℕ). comes_to (outcome w.asked (row_at g.table w.place) (content_in n next.bytes) g.properties)) (sym first)

-- ---- the row

-- the row matters only where a place was found
module _ (addresses : List ℕ) (r s : Row) (c : List ℕ) (p : Properties) where
  abbrev SameBy : Want → Type 0
  SameBy w = (w.place < length addresses → r ≡ s) → outcome w.asked r c p ≡ outcome w.asked s c p

  place_alone : (e : Entry) (m : DeviceMethod) (f : std.Option ℕ) → ((i : ℕ) → f ≡ Some i → i < length addresses) → SameBy (wanted_at e m f)
  unfolding outcome
  place_alone e m (Some i) inside h = ap (λ (x : Row). outcome (asked.Device e m) x c p) (h (inside i refl))
  place_alone e m None inside h = refl

  plan_alone : (x : std.Result Planned FrameError) → SameBy (wanted_by x addresses)
  unfolding wanted_by outcome
  plan_alone (Err x) h = refl
  plan_alone (Ok (planned.Own e m)) h = refl
  plan_alone (Ok (planned.Device e m a)) h = place_alone e m (find_address addresses a) (address_inside addresses a) h

  pub row_alone : (v : Event) (b : List ℕ) → SameBy (wanted v b addresses)
  unfolding wanted outcome
  row_alone event.Nothing b h = refl
  row_alone (event.Dropped d n) b h = refl
  row_alone (event.Frame ptype size) b h = plan_alone (plan ptype (content_in size b)) h

-- the place is within any array of as many places, and one at least
module _ (addresses : List ℕ) (n : ℕ) (some : 0 < n) (few : length addresses ≤ n) where
  place_at : (e : Entry) (m : DeviceMethod) (f : std.Option ℕ) → ((i : ℕ) → f ≡ Some i → i < length addresses) → (wanted_at e m f).place < n
  place_at e m (Some i) inside = omega (arith, inside i refl)
  place_at e m None inside = some

  plan_at : (x : std.Result Planned FrameError) → (wanted_by x addresses).place < n
  unfolding wanted_by
  plan_at (Err x) = some
  plan_at (Ok (planned.Own e m)) = some
  plan_at (Ok (planned.Device e m a)) = place_at e m (find_address addresses a) (address_inside addresses a)

  pub place_within : (v : Event) (b : List ℕ) → (wanted v b addresses).place < n
  unfolding wanted
  place_within event.Nothing b = some
  place_within (event.Dropped d k) b = some
  place_within (event.Frame ptype size) b = plan_at (plan ptype (content_in size b))
