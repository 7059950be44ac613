-- What the code has at hand after an event, its answer and the lent buffer, gives the line and the state that the definitions say
-- of the bytes up to it. Assumes nothing.
use Rattle.std.proofs.Common.{◌≡◌, ℕ, zero, suc, ◌+◌, ◌-◌, ◌%◌, ◌^◌, List, [], ◌∷◌, ◌++◌, length, get_or, take, drop, replicate, sym, refl, ap, ◌∙◌, append-nil, arith}
use mathlib.Core.List.{foldl}
use lib.Seq.{take-length}
use Rattle.lists.specs.Outputs.{outputs}
use Rattle.lists.specs.Overlay.{overlay}
use Rattle.lists.proofs.Clash.{clash}
use Rattle.lists.proofs.Overlays.{overlay_take}
use Rattle.tpck.specs.Frame.{places}
use Rattle.tpck.specs.Receive as receive
use Rattle.tpck.specs.Scan.{scan, joined}
use Rattle.devices.specs.declared.row.Row.{Row}
use Rattle.updates.specs.declared.line.Line.TheVariants.{Controller}
use Rattle.gateway.specs.declared.answers.ByteAnswer.{ByteAnswer}
use Rattle.gateway.specs.declared.answers.ByteAnswer.TheVariants as says
use Rattle.gateway.specs.declared.gateway.Gateway.{Gateway}
use Rattle.gateway.specs.State.{State}
use Rattle.gateway.specs.Reply.{on_line}
use Rattle.gateway.specs.Writes.{ByteWrites}
use Rattle.gateway.specs.Writes.ByteWrites.{nothing, refused, queued, replied}
use Rattle.gateway.specs.View.{view}
use Rattle.gateway.specs.Results.{fed}
use Rattle.gateway.proofs.Parts.{view_put}
use Rattle.gateway.proofs.Theorems.{event_writes, byte_writes}
use Rattle.blocks.specs.declared.parts.Moving.{Moving}
use Rattle.blocks.specs.declared.reaching.Reached.{Reached}
use Rattle.blocks.specs.declared.answering.Answered.{Answered}
use Rattle.blocks.specs.Feed.{Feed, one_by_one}
use Rattle.blocks.specs.Parts.{with_moving}
use Rattle.blocks.proofs.Events.{from, from_drop, Answers, event_in, said_is, laid_is, reached_feed, reached_one_by_one}
use Rattle.text.specs.Place.{newline}
use Rattle.text.specs.Hex.{hex_bytes}
use Rattle.text.specs.Event.{event_text, reply_word}
use Rattle.text.specs.Report.{report}
use Rattle.listing.specs.Lines.{reply_line, line}
use Rattle.listing.specs.Listing.{answered, next, line_of}

-- ---- an answer that tells a reply tells its length, so its line can be read off the buffer

line_read : (offset : ℕ) {a : ByteAnswer} {bytes : List ℕ} (base : List ℕ) → ByteWrites a bytes → line offset a (overlay bytes base) ≡ line offset a bytes
unfolding reply_line
line_read offset base nothing = refl
line_read offset base (refused e) = refl
line_read offset base (queued n h) = refl
line_read offset base (replied content h) =
    let bytes = on_line content in
    ap (λ (l : List ℕ). event_text offset reply_word (length bytes) ++ hex_bytes l ++ newline ∷ []) (overlay_take bytes base ∙ sym (take-length bytes))

-- ---- bytes one at a time

view_one_by_one : (g : Gateway) (bs : List ℕ) → view (one_by_one g Controller bs).gateway ≡ foldl next (view g) bs
unfolding one_by_one
view_one_by_one g [] = refl
view_one_by_one g (b ∷ bs) =
    let x = answered (view g) b in
    view_one_by_one (fed g x).gateway bs ∙ ap (λ (s : State). foldl next s bs) (view_put g x.effect)

-- a byte that does nothing has no reply
quiet_reply : (a : ByteAnswer) (reply : List ℕ) → ByteWrites a reply → a ≡ says.Nothing → reply ≡ []
quiet_reply _ _ nothing e = refl
quiet_reply _ _ (refused x) e = clash cc
quiet_reply _ _ (queued n h) e = clash cc
quiet_reply _ _ (replied content h) e = clash cc

-- where all but the last do nothing, their lines are that of the last
lines_of_last : (k offset : ℕ) (g : Gateway) (bs : List ℕ) (a : ByteAnswer) → (one_by_one g Controller bs).answers ≡ replicate k says.Nothing ++ (a ∷ [])
    → report next line_of (view g) offset bs ≡ line ((offset + k) % 2 ^ 64) a (one_by_one g Controller bs).replies
unfolding one_by_one outputs
lines_of_last zero offset g [] a h = absurd (omega (arith, ap length h))
lines_of_last zero offset g (b ∷ []) a h =
    let x = answered (view g) b in
    let here : offset ≡ offset + 0 = omega arith in
    append-nil (line_of (offset % 2 ^ 64) (view g) b)
    ∙ (λ i. line (here i % 2 ^ 64) (ap (λ (l : List ByteAnswer). get_or l 0 says.Nothing) h i) (sym (append-nil x.reply) i))
lines_of_last zero offset g (b ∷ c ∷ bs) a h =
    absurd (omega (arith, ap length h))
lines_of_last (suc k) offset g [] a h = absurd (omega (arith, ap length h))
lines_of_last (suc k) offset g (b ∷ bs) a h =
    let x = answered (view g) b in
    let rest = one_by_one (fed g x).gateway Controller bs in
    let silent : x.answer ≡ says.Nothing = ap (λ (l : List ByteAnswer). get_or l 0 says.Nothing) h in
    let empty : x.reply ≡ [] = quiet_reply x.answer x.reply (byte_writes (view g) Controller b 32) silent in
    let later : offset + 1 + k ≡ offset + suc k = omega arith in
    let tail = lines_of_last k (offset + 1) (fed g x).gateway bs a (ap (λ (l : List ByteAnswer). drop 1 l) h) in
    let state : report next line_of (next (view g) b) (offset + 1) bs ≡ report next line_of (view (fed g x).gateway) (offset + 1) bs =
    ap (λ (s : State). report next line_of s (offset + 1) bs) (sym (view_put g x.effect)) in
    (λ i. line (offset % 2 ^ 64) (silent i) x.reply ++ state i) ∙ tail
    ∙ (λ i. line (later i % 2 ^ 64) a (sym empty i ++ rest.replies))

-- ---- the bytes up to an event

module _ {g : Gateway} {moving : Moving} {body addresses block : List ℕ} {i : ℕ} {y : Reached} {rest : List ℕ} {row : Row} {area : List ℕ} {z : Answered} {left : List ℕ}
    (h : Answers g Controller moving body addresses block i y rest row area z left) (whole : length rest ≡ places) where
  abbrev before : Gateway
  before = with_moving g Controller moving body

  abbrev part : List ℕ
  part = take y.used (drop i block)

  one_by_one_lem : one_by_one before Controller part ≡ reached_feed h
  one_by_one_lem = ap (λ (l : List ℕ). one_by_one before Controller (take y.used l)) (sym (from_drop block i)) ∙ reached_one_by_one h whole

  -- the state after them
  pub next_is : view (with_moving g Controller z.moving rest) ≡ foldl next (view before) part
  next_is = ap (λ (f : Feed). view f.gateway) (sym one_by_one_lem) ∙ view_one_by_one before part

  -- their lines, where this is the first one's offset: the line of the answer, at the offset of the last one, read off the buffer
  pub line_is : (offset at : ℕ) → at ≡ (offset + (y.used - 1)) % 2 ^ 64 → line at z.answer left ≡ report next line_of (view before) offset part
  line_is offset at e =
      let s = scan (joined moving.control body) (from block i) in
      let reply = (event_in g Controller moving body (from block i)).reply in
      let last = (offset + (y.used - 1)) % 2 ^ 64 in
      let lines = lines_of_last (y.used - 1) offset before part z.answer (ap (λ (f : Feed). f.answers) one_by_one_lem)
      ∙ ap (λ (f : Feed). line last z.answer f.replies) one_by_one_lem in
      (λ k. line (e k) (said_is h k) (laid_is h k))
      ∙ line_read last area (event_writes (view before) Controller (receive.view s.next).body s.event)
      ∙ (λ k. line last (sym (said_is h) k) reply) ∙ sym lines
