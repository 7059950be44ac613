-- Bytes fed one by one: with too little room, in two parts, and as one byte at a time gives. Assumes nothing.
use Prim.Native.Nat.{ℕ, suc, ◌-◌, ◌≤◌, ◌<◌}
use mathlib.Core.Path.{◌≡◌, refl, sym, ap, ◌∙◌}
use mathlib.Core.Bool.{Bool, true, false}
use mathlib.Core.List.{List, [], ◌∷◌, ◌++◌, append_assoc}
use native.Mathlib.Omega.{arith}
use lib.Dec.{ltb}
use lib.ListN.{length, take, length-append}
use borrow.Author.Tests.{lt-ltb, le-ltb, ltb-false}
use Rattle.updates.specs.declared.line.Line.{Line}
use Rattle.gateway.specs.declared.gateway.Gateway.{Gateway}
use Rattle.gateway.specs.declared.answers.ByteAnswer.{ByteAnswer}
use Rattle.gateway.specs.State.{State, Result}
use Rattle.gateway.specs.Reply.{room}
use Rattle.gateway.specs.Byte.{byte}
use Rattle.gateway.specs.View.{view}
use Rattle.gateway.specs.Results.{fed}
use Rattle.blocks.specs.Feed.{Feed, unused, first, unless_full, feed, one_by_one}

-- ---- a byte

-- with room for a reply the buffer's length does not matter
pub byte_roomy : (g : State) (l : Line) (b n : ℕ) → room ≤ n → byte g l b n ≡ byte g l b room
unfolding byte
byte_roomy g l b n h = rw (le-ltb n room h)

-- ---- two parts

-- what the bytes of two parts came to
abbrev pub joined : Feed → Feed → Feed
joined x y = record { gateway = y.gateway; answers = x.answers ++ y.answers; replies = x.replies ++ y.replies }

module _ (l : Line) where
  -- with too little room no byte is used
  pub feed_full : (g : Gateway) (n : ℕ) (bs : List ℕ) → n < room → feed g l n bs ≡ unused g
  unfolding feed
  feed_full g n [] h = refl
  feed_full g n (b ∷ bs) h = rw (lt-ltb n room h)

  -- the first byte, with room for its reply
  pub feed_first : (g : Gateway) (n b : ℕ) (bs : List ℕ) → room ≤ n
      → feed g l n (b ∷ bs) ≡ first (byte (view g) l b n) (feed (fed g (byte (view g) l b n)).gateway l (n - length (byte (view g) l b n).reply) bs)
  unfolding feed
  feed_first g n b bs h = rw (le-ltb n room h)

  within_if : (full : Bool) (g : Gateway) (x : Result ByteAnswer) (rest : Feed) (k : ℕ) → length rest.answers ≤ k
      → length (unless_full full g x rest).answers ≤ suc k
  within_if true g x rest k h = omega arith
  within_if false g x rest k h = omega arith

  pub feed_within : (g : Gateway) (n : ℕ) (bs : List ℕ) → length (feed g l n bs).answers ≤ length bs
  unfolding feed
  feed_within g n [] = omega arith
  feed_within g n (b ∷ bs) =
      let x = byte (view g) l b n in
      let after = (fed g x).gateway in
      let m = n - length x.reply in
      within_if (ltb n room) g x (feed after l m bs) (length bs) (feed_within after m bs)

  -- a byte in front of bytes that are all used, and more bytes after them
  append_if : (full : Bool) (g : Gateway) (n : ℕ) (x : Result ByteAnswer) (rest both : Feed) (ys : List ℕ) (k : ℕ)
      → (length rest.answers ≡ k → both ≡ joined rest (feed rest.gateway l (n - length x.reply - length rest.replies) ys))
      → length (unless_full full g x rest).answers ≡ suc k
      → unless_full full g x both ≡ joined (unless_full full g x rest) (feed (unless_full full g x rest).gateway l (n - length (unless_full full g x rest).replies) ys)
  append_if true g n x rest both ys k more h = absurd (omega arith)
  append_if false g n x rest both ys k more h =
      let m = n - length x.reply - length rest.replies in
      let e : n - length (x.reply ++ rest.replies) ≡ m = omega (arith, length-append x.reply rest.replies) in
      let y = feed rest.gateway l m ys in
      let assoc = append_assoc x.reply rest.replies y.replies in
      rw (e, more (omega arith)) (λ i. record { gateway = y.gateway; answers = x.answer ∷ rest.answers ++ y.answers; replies = sym assoc i })

  -- bytes that are all used, and more bytes after them: these find the gateway and the room that the first have left
  pub feed_append : (g : Gateway) (n : ℕ) (xs ys : List ℕ) → length (feed g l n xs).answers ≡ length xs
      → feed g l n (xs ++ ys) ≡ joined (feed g l n xs) (feed (feed g l n xs).gateway l (n - length (feed g l n xs).replies) ys)
  unfolding feed
  feed_append g n [] ys h = let e : n - 0 ≡ n = omega arith in rw e
  feed_append g n (b ∷ bs) ys h =
      let x = byte (view g) l b n in
      let after = (fed g x).gateway in
      let m = n - length x.reply in
      append_if (ltb n room) g n x (feed after l m bs) (feed after l m (bs ++ ys)) ys (length bs) (feed_append after m bs ys) h

  -- ---- one byte at a time

  one_if : (full : Bool) (g : Gateway) (n b : ℕ) (bs : List ℕ) (rest : Feed) → ltb n room ≡ full
      → let x = byte (view g) l b n in
      rest ≡ one_by_one (fed g x).gateway l (take (length rest.answers) bs)
      → unless_full full g x rest ≡ one_by_one g l (take (length (unless_full full g x rest).answers) (b ∷ bs))
  unfolding one_by_one
  one_if true g n b bs rest full h = refl
  one_if false g n b bs rest full h =
      let e = byte_roomy (view g) l b n (ltb-false n room full) in
      ap (λ (y : Feed). first (byte (view g) l b n) y) h
      ∙ ap (λ (x : Result ByteAnswer). first x (one_by_one (fed g x).gateway l (take (length rest.answers) bs))) e

  -- the bytes used give what one byte at a time gives
  pub feed_one_by_one : (g : Gateway) (n : ℕ) (bs : List ℕ) → feed g l n bs ≡ one_by_one g l (take (length (feed g l n bs).answers) bs)
  unfolding feed one_by_one
  feed_one_by_one g n [] = refl
  feed_one_by_one g n (b ∷ bs) =
      let x = byte (view g) l b n in
      let after = (fed g x).gateway in
      let m = n - length x.reply in
      one_if (ltb n room) g n b bs (feed after l m bs) refl (feed_one_by_one after m bs)

  pub one_answers : (g : Gateway) (bs : List ℕ) → length (one_by_one g l bs).answers ≡ length bs
  unfolding one_by_one
  one_answers g [] = refl
  one_answers g (b ∷ bs) = ap suc (one_answers (fed g (byte (view g) l b room)).gateway bs)

  pub one_append : (g : Gateway) (xs ys : List ℕ) → one_by_one g l (xs ++ ys) ≡ joined (one_by_one g l xs) (one_by_one (one_by_one g l xs).gateway l ys)
  unfolding one_by_one
  one_append g [] ys = refl
  one_append g (b ∷ bs) ys =
      let x = byte (view g) l b room in
      let rest = one_by_one (fed g x).gateway l bs in
      let y = one_by_one rest.gateway l ys in
      let assoc = append_assoc x.reply rest.replies y.replies in
      rw (one_append (fed g x).gateway bs ys) (λ i. record { gateway = y.gateway; answers = x.answer ∷ rest.answers ++ y.answers; replies = sym assoc i })
