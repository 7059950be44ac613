-- The block call by its cases: the area too short, no byte, and the bytes up to 4,096. Assumes nothing.
use Prim.Native.Nat.{ℕ, ◌≤◌, ◌<◌, min}
use mathlib.Core.Path.{◌≡◌, refl, sym, ap, ◌∙◌}
use mathlib.Core.Bool.{Bool, true, false}
use mathlib.Core.List.{List, []}
use native.Mathlib.Omega.{arith}
use lib.Dec.{leb}
use lib.ListN.{length, take}
use lib.Seq.{take_all}
use borrow.Author.Tests.{lt-ltb, le-ltb, leb-true, leb-false}
use Rattle.lists.specs.Overlay.{overlay}
use Rattle.lists.proofs.Overlays.{overlay_nil}
use Rattle.updates.specs.declared.line.Line.{Line}
use Rattle.gateway.specs.declared.gateway.Gateway.{Gateway}
use Rattle.gateway.specs.Reply.{room}
use Rattle.blocks.specs.declared.answers.Blocked.{Blocked}
use Rattle.blocks.specs.Counts.{counted}
use Rattle.blocks.specs.Feed.{Feed, feed}
use Rattle.blocks.specs.Block.{used, most_used, feed_of, refused, blocked_by, block}
use Rattle.blocks.proofs.Feeds.{feed_full}

-- as many bytes as the code takes
take_most : (bytes : List ℕ) (n : ℕ) → n ≡ min (length bytes) most_used → take n bytes ≡ take most_used bytes
take_most bytes n e = go (leb (length bytes) most_used) refl
  where
    go : (t : Bool) → leb (length bytes) most_used ≡ t → take n bytes ≡ take most_used bytes
    go true h =
        let few = leb-true (length bytes) most_used h in
        take_all n bytes (omega (arith, e, few)) ∙ sym (take_all most_used bytes few)
    go false h =
        let is : n ≡ most_used = omega (arith, e, leb-false (length bytes) most_used h) in
        ap (λ (k : ℕ). take k bytes) is

-- what the code hands back and leaves in the area
module _ (g : Gateway) (l : Line) (bytes area : List ℕ) where
  abbrev pub Tells : Blocked → (left : List ℕ) → Type 0
  Tells r left = (r ≡ block g l bytes (length area)) × (left ≡ overlay (feed_of g l bytes (length area)).replies area)

  pub short_told : length area < room → (r : Blocked) → r ≡ refused g → Tells r area
  unfolding block
  short_told h r e =
      let none = feed_full l g (length area) (take most_used bytes) h in
      (e ∙ rw (lt-ltb (length area) room h), sym (ap (λ (x : Feed). overlay x.replies area) none ∙ overlay_nil area))

  module _ (long : room ≤ length area) where
    block_roomy : block g l bytes (length area) ≡ blocked_by (feed_of g l bytes (length area))
    unfolding block
    block_roomy = rw (le-ltb (length area) room long)

    pub fed_told : (n : ℕ) → n ≡ min (length bytes) most_used → (r : Blocked) (left : List ℕ)
        → (r ≡ blocked_by (feed g l (length area) (take n bytes))) × (left ≡ overlay (feed g l (length area) (take n bytes)).replies area) → Tells r left
    fed_told n e r left h =
        let same = ap (feed g l (length area)) (take_most bytes n e) in
        (h.0 ∙ ap blocked_by same ∙ sym block_roomy, h.1 ∙ ap (λ (x : Feed). overlay x.replies area) same)

    pub none_told : min (length bytes) most_used ≡ 0 → (r : Blocked) → ◌≡◌ {A = Blocked} r (record { gateway = g; answer = used 0 0; counts = counted [] }) → Tells r area
    unfolding feed
    none_told e r is = fed_told 0 (sym e) r area (is, sym (overlay_nil area))
