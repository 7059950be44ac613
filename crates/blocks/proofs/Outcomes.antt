-- What an event comes to, by what its parts answer: a reply that is sent, and results by another name of their outcome. Assumes nothing.
use mathlib.Core.Path.{◌≡◌, ap, ◌∙◌}
use mathlib.Core.List.{List, [], ◌∷◌}
use Prim.Native.Nat.{ℕ, ◌≤◌}
use lib.ListN.{length}
use Rattle.tpck.specs.Write as write
use Rattle.devices.specs.declared.row.Row.{Row}
use Rattle.trpc.specs.declared.methods.Entry.{Entry}
use Rattle.trpc.specs.declared.methods.GatewayMethod.{GatewayMethod}
use Rattle.trpc.specs.declared.methods.DeviceMethod.{DeviceMethod}
use Rattle.trpc.specs.declared.judging.Subject.TheVariants.{Own, Device}
use Rattle.trpc.specs.declared.properties.Properties.{Properties}
use Rattle.trpc.specs.declared.replies.Responded.{Responded}
use Rattle.trpc.specs.Judging.{record_type}
use Rattle.trpc.specs.Replies.{Response, respond, respond_gateway, respond_device, responded}
use Rattle.trpc.proofs.Widths.{reply_fits}
use Rattle.devices.specs.Table.{row_at}
use Rattle.gateway.specs.Reply.{bytes_of, sent_buffer}
use Rattle.gateway.proofs.Replies.{packed_content}
use Rattle.updates.specs.declared.line.Line.{Line}
use Rattle.blocks.specs.declared.parts.Moving.{Moving}
use Rattle.blocks.specs.declared.answering.Answered.{Answered}
use Rattle.blocks.specs.Answer.{Outcome, replying, sending, ruled, area_left}
use Rattle.blocks.specs.Answer.Outcome.{Replies}

-- ---- the data of a reply at once are at most twelve bytes

module _ (c : List ℕ) (e : Entry) (p : Properties) where
  pub own_few : (m : GatewayMethod) → length (respond_gateway c e m p).content ≤ 12
  unfolding respond
  own_few m = reply_fits c e p [] (Own m)

  pub row_few : (m : DeviceMethod) (r : Row) → length (respond_device c e m p r).content ≤ 12
  unfolding respond row_at
  row_few m r = reply_fits c e p (r ∷ []) (Device m 0)

-- ---- results

-- what a function hands back and leaves in the area, by the outcome
abbrev pub Rules : Outcome → Moving → Line → (area : List ℕ) → Answered → (left : List ℕ) → Type 0
Rules o m l area r left = (r ≡ ruled o m l area) × (left ≡ area_left o area)

-- a response that is sent, where its data are few
pub replies_sent : (x : Response) → length x.content ≤ 12 → (y : Responded) → y ≡ responded x → (m : Moving) (l : Line) (area : List ℕ) (r : Answered) (left : List ℕ)
    → (r ≡ sending m y area) × (left ≡ sent_buffer y.reply area) → Rules (Replies x) m l area r left
replies_sent x few y is m l area r left h =
    let content = packed_content x.content few y.reply (ap (λ (z : Responded). z.reply) is) in
    let after = ap (λ (z : Responded). z.properties) is in
    (h.0 ∙ (λ i. replying m (after i) (bytes_of (write.write record_type (content i) area))), h.1 ∙ ap (λ (k : List ℕ). write.buffer record_type k area) content)
