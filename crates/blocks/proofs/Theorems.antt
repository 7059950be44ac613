-- The theorems on blocks (document 02, M-100): where a block stops, and that any cutting gives what one byte at a time gives. Assumes
-- nothing.
use Prim.Native.Nat.{ℕ, zero, suc, ◌+◌, ◌-◌, ◌≤◌, ◌<◌, min}
use mathlib.Core.Path.{◌≡◌, refl, sym, ap, ◌∙◌, subst}
use mathlib.Core.Bool.{Bool, true, false, cond}
use mathlib.Core.List.{List, [], ◌∷◌, ◌++◌}
use native.Mathlib.Omega.{arith}
use lib.Dec.{ltb}
use lib.ListN.{length, take, drop, length-append, length-take, length-drop}
use lib.Seq.{take-take, take-add, length-take-le}
use borrow.Author.Tests.{ltb-true, ltb-false}
use Rattle.lists.specs.Overlay.{overlay}
use Rattle.lists.proofs.Overlays.{overlay_take}
use Rattle.updates.specs.declared.line.Line.{Line}
use Rattle.gateway.specs.declared.gateway.Gateway.{Gateway}
use Rattle.gateway.specs.declared.answers.ByteAnswer.{ByteAnswer}
use Rattle.gateway.specs.State.{State, Result}
use Rattle.gateway.specs.Reply.{room}
use Rattle.gateway.specs.Writes.{ByteWrites}
use Rattle.gateway.specs.Writes.ByteWrites.{nothing, refused as refused-byte, queued, replied}
use Rattle.gateway.specs.Byte.{byte}
use Rattle.gateway.specs.View.{view}
use Rattle.gateway.specs.Results.{fed}
use Rattle.gateway.proofs.Theorems.{byte_writes}
use Rattle.blocks.specs.Counts.{counted}
use Rattle.blocks.specs.Feed.{Feed, unless_full, feed, one_by_one}
use Rattle.blocks.specs.Block.{most_used, used_in, feed_of, refused, blocked_by, block, StopsRight}
use Rattle.blocks.specs.Cutting.{Cut, Total, summed, area_after, and_then, in_blocks, total_of, AnyCutting}
use Rattle.blocks.proofs.Feeds.{feed_within, feed_one_by_one, one_answers, one_append, joined}
use Rattle.blocks.proofs.Tallies.{counted_append}

-- ---- where it stops

written_fits : (a : ByteAnswer) (reply : List ℕ) → ByteWrites a reply → length reply ≤ room
written_fits _ _ nothing = omega arith
written_fits _ _ (refused-byte e) = omega arith
written_fits _ _ (queued n h) = omega arith
written_fits _ _ (replied content fits) = fits.line

reply_fits : (g : State) (l : Line) (b n : ℕ) → length (byte g l b n).reply ≤ room
reply_fits g l b n = written_fits (byte g l b n).answer (byte g l b n).reply (byte_writes g l b n)

module _ (l : Line) where
  fits_if : (full : Bool) (g : Gateway) (n : ℕ) (x : Result ByteAnswer) (rest : Feed) → ltb n room ≡ full → length x.reply ≤ room
      → length rest.replies ≤ n - length x.reply → length (unless_full full g x rest).replies ≤ n
  fits_if true g n x rest full small h = omega arith
  fits_if false g n x rest full small h = omega (arith, ltb-false n room full, length-append x.reply rest.replies)

  pub feed_fits : (g : Gateway) (n : ℕ) (bs : List ℕ) → length (feed g l n bs).replies ≤ n
  unfolding feed
  feed_fits g n [] = omega arith
  feed_fits g n (b ∷ bs) =
      let x = byte (view g) l b n in
      let m = n - length x.reply in
      fits_if (ltb n room) g n x (feed (fed g x).gateway l m bs) refl (reply_fits (view g) l b n) (feed_fits (fed g x).gateway m bs)

  stopped_if : (full : Bool) (g : Gateway) (n k : ℕ) (x : Result ByteAnswer) (rest : Feed) → ltb n room ≡ full
      → (length rest.answers < k → n - length x.reply - length rest.replies < room)
      → length (unless_full full g x rest).answers < suc k → n - length (unless_full full g x rest).replies < room
  stopped_if true g n k x rest full h less = omega (arith, ltb-true n room full)
  stopped_if false g n k x rest full h less = omega (arith, h (omega arith), length-append x.reply rest.replies)

  feed_stopped : (g : Gateway) (n : ℕ) (bs : List ℕ) → length (feed g l n bs).answers < length bs → n - length (feed g l n bs).replies < room
  unfolding feed
  feed_stopped g n [] h = absurd (omega arith)
  feed_stopped g n (b ∷ bs) h =
      let x = byte (view g) l b n in
      let m = n - length x.reply in
      stopped_if (ltb n room) g n (length bs) x (feed (fed g x).gateway l m bs) refl (feed_stopped (fed g x).gateway m bs) h

  roomy_if : (full : Bool) (g : Gateway) (n k : ℕ) (x : Result ByteAnswer) (rest some : Feed) → ltb n room ≡ full → length x.reply ≤ room
      → (k < length rest.answers → room + length some.replies ≤ n - length x.reply)
      → suc k < length (unless_full full g x rest).answers → room + length (unless_full full g x some).replies ≤ n
  roomy_if true g n k x rest some full small h less = absurd (omega arith)
  roomy_if false g n k x rest some full small h less = omega (arith, ltb-false n room full, h (omega arith), length-append x.reply some.replies)

  roomy_now : (full : Bool) (g : Gateway) (n : ℕ) (x : Result ByteAnswer) (rest : Feed) → ltb n room ≡ full
      → 0 < length (unless_full full g x rest).answers → room + 0 ≤ n
  roomy_now true g n x rest full less = absurd (omega arith)
  roomy_now false g n x rest full less = omega (arith, ltb-false n room full)

  feed_roomy : (g : Gateway) (n : ℕ) (bs : List ℕ) (k : ℕ) → k < length (feed g l n bs).answers → room + length (feed g l n (take k bs)).replies ≤ n
  unfolding feed
  feed_roomy g n [] k h = absurd (omega arith)
  feed_roomy g n (b ∷ bs) zero h =
      let x = byte (view g) l b n in
      roomy_now (ltb n room) g n x (feed (fed g x).gateway l (n - length x.reply) bs) refl h
  feed_roomy g n (b ∷ bs) (suc k) h =
      let x = byte (view g) l b n in
      let m = n - length x.reply in
      roomy_if (ltb n room) g n k x (feed (fed g x).gateway l m bs) (feed (fed g x).gateway l m (take k bs)) refl (reply_fits (view g) l b n)
      (feed_roomy (fed g x).gateway m bs k) h

-- a block stops where document 02 says, and nowhere else
pub stops_right : (g : Gateway) (l : Line) (bytes : List ℕ) (n : ℕ) → StopsRight g l bytes n
stops_right g l bytes n =
    let all = take most_used bytes in
    record {
      within = feed_within l g n all;
      stopped = feed_stopped l g n all;
      roomy = λ k h.
          let less : k ≤ most_used = omega (arith, feed_within l g n all, length-take most_used bytes) in
          rw (← take-take k most_used bytes less) (feed_roomy l g n all k h);
      fits = feed_fits l g n all;
    }

-- ---- any cutting

module _ (l : Line) where
  -- the bytes of a block call, and those that the calls after it used
  both : (g : Gateway) (u v : ℕ) (line : List ℕ)
      → one_by_one g l (take (u + v) line) ≡ joined (one_by_one g l (take u line)) (one_by_one (one_by_one g l (take u line)).gateway l (take v (drop u line)))
  both g u v line = ap (λ (k : List ℕ). one_by_one g l k) (take-add u v line) ∙ one_append l g (take u line) (take v (drop u line))

  -- a block call whose u bytes came to x, and what those that carry on after it come to
  abbrev Then : (g : Gateway) (u : ℕ) (area line : List ℕ) (rest : Total) → Feed → Type 0
  Then g u area line rest x =
      rest ≡ total_of rest.used (one_by_one x.gateway l (take rest.used (drop u line)))
      → ◌≡◌ {A = Total}
      (record { used = u + rest.used; written = take (length x.replies) (overlay x.replies area) ++ rest.written; counts = summed (counted x.answers) rest.counts; gateway = rest.gateway })
      (total_of (u + rest.used) (one_by_one g l (take (u + rest.used) line)))

  then_right : (g : Gateway) (u : ℕ) (area line : List ℕ) (rest : Total) → Then g u area line rest (one_by_one g l (take u line))
  then_right g u area line rest is =
      let x = one_by_one g l (take u line) in
      let y = one_by_one x.gateway l (take rest.used (drop u line)) in
      let e = sym (both g u rest.used line) in
      let written = ap (λ (k : List ℕ). k ++ rest.written) (overlay_take x.replies area) ∙ ap (λ (t : Total). x.replies ++ t.written) is ∙ ap (λ (z : Feed). z.replies) e in
      let counts = ap (λ (t : Total). summed (counted x.answers) t.counts) is ∙ sym (counted_append x.answers y.answers) ∙ ap (λ (z : Feed). counted z.answers) e in
      let after = ap (λ (t : Total). t.gateway) is ∙ ap (λ (z : Feed). z.gateway) e in
      λ i. record { used = u + rest.used; written = written i; counts = counts i; gateway = after i }

  abbrev Cuts : Gateway → List Cut → List ℕ → Type 0
  Cuts g cs line = in_blocks g l cs line ≡ total_of (in_blocks g l cs line).used (one_by_one g l (take (in_blocks g l cs line).used line))

  -- the bytes that a block call used are the first of the line
  used_first : (g : Gateway) (n size : ℕ) (line : List ℕ)
      → let x = feed_of g l (take size line) n in x ≡ one_by_one g l (take (length x.answers) line)
  used_first g n size line =
      let part = take most_used (take size line) in
      let u = length (feed g l n part).answers in
      let few : u ≤ min most_used (min size (length line)) = omega (arith, feed_within l g n part, length-take most_used (take size line), length-take size line) in
      let cut = take-take u most_used (take size line) (omega arith) ∙ take-take u size line (omega arith) in
      feed_one_by_one l g n part ∙ ap (λ (k : List ℕ). one_by_one g l k) cut

  cut_if : (short : Bool) (g : Gateway) (c : Cut) (cs : List Cut) (line : List ℕ) → ((h : Gateway) (k : List ℕ) → Cuts h cs k)
      → let bytes = take c.size line in
      let r = cond short (refused g) (blocked_by (feed_of g l bytes (length c.area))) in
      let total = and_then r (area_after g l bytes c.area) (in_blocks r.gateway l cs (drop (used_in r.answer) line)) in
      total ≡ total_of total.used (one_by_one g l (take total.used line))
  unfolding one_by_one
  cut_if true g c cs line more =
      then_right g 0 (area_after g l (take c.size line) c.area) line (in_blocks g l cs line) (more g line)
  cut_if false g c cs line more =
      let x = feed_of g l (take c.size line) (length c.area) in
      let u = length x.answers in
      let rest = in_blocks x.gateway l cs (drop u line) in
      subst (Then g u c.area line rest) (sym (used_first g (length c.area) c.size line)) (then_right g u c.area line rest) (more x.gateway (drop u line))

  cuts_right : (g : Gateway) (cs : List Cut) (line : List ℕ) → Cuts g cs line
  unfolding in_blocks block one_by_one
  cuts_right g [] line = refl
  cuts_right g (c ∷ cs) line = cut_if (ltb (length c.area) room) g c cs line (λ h k. cuts_right h cs k)

  -- no more bytes are used than the line has
  used_if : (short : Bool) (g : Gateway) (c : Cut) (cs : List Cut) (line : List ℕ) → ((h : Gateway) (k : List ℕ) → (in_blocks h l cs k).used ≤ length k)
      → let bytes = take c.size line in
      let r = cond short (refused g) (blocked_by (feed_of g l bytes (length c.area))) in
      used_in r.answer + (in_blocks r.gateway l cs (drop (used_in r.answer) line)).used ≤ length line
  used_if true g c cs line more = omega (arith, more g line)
  used_if false g c cs line more =
      let part = take most_used (take c.size line) in
      let x = feed g l (length c.area) part in
      omega (arith, more x.gateway (drop (length x.answers) line), length-drop (length x.answers) line, feed_within l g (length c.area) part, length-take most_used (take c.size line), length-take c.size line)

  used_few : (g : Gateway) (cs : List Cut) (line : List ℕ) → (in_blocks g l cs line).used ≤ length line
  unfolding in_blocks block
  used_few g [] line = omega arith
  used_few g (c ∷ cs) line = used_if (ltb (length c.area) room) g c cs line (λ h k. used_few h cs k)

-- every cutting of every line gives what one byte at a time gives
pub any_cutting : (g : Gateway) (l : Line) (cuts : List Cut) (line : List ℕ) → AnyCutting g l cuts line
any_cutting g l cuts line =
    let n = (in_blocks g l cuts line).used in
    (cuts_right l g cuts line, one_answers l g (take n line) ∙ length-take-le n line (used_few l g cuts line))
