-- Laws of texts put at a place: one after another. Assumes nothing.
use Prim.Native.Nat.{ℕ, ◌+◌, ◌≤◌}
use mathlib.Core.Path.{◌≡◌, refl, sym, ◌∙◌, ap}
use mathlib.Core.Bool.{Bool, true, false}
use mathlib.Core.List.{List, [], ◌++◌}
use native.Mathlib.Omega.{arith}
use borrow.Author.Tests.{leb-true, leb-false}
use lib.Dec.{leb}
use lib.ListN.{length, take, drop, length-append}
use lib.Seq.{sets, sets-eq, length-sets}
use Rattle.lists.specs.Overlay.{overlay}
use Rattle.lists.proofs.Overlays.{overlay_take}
use Rattle.lists.proofs.Stores.{sets_append, sets_past}
use Rattle.text.specs.Place.{place_after, Begun, Puts}
use Rattle.text.specs.declared.place.Text.{Text}

pub after_after : (size at m n : ℕ) → place_after size (place_after size at m) n ≡ place_after size at (m + n)
after_after size at m n = omega arith

-- a text after another
pub put_append : (l : List ℕ) (at : ℕ) (xs ys : List ℕ) → sets (sets l at xs) (place_after (length l) at (length xs)) ys ≡ sets l at (xs ++ ys)
put_append l at xs ys = go (leb (at + length xs) (length l)) refl
  where
    go : (t : Bool) → leb (at + length xs) (length l) ≡ t → sets (sets l at xs) (place_after (length l) at (length xs)) ys ≡ sets l at (xs ++ ys)
    go true h =
        let e : place_after (length l) at (length xs) ≡ at + length xs = omega (arith, leb-true) in
        rw e (sets_append l at xs ys)
    go false h =
        let past : length (sets l at xs) ≤ place_after (length l) at (length xs) = rw (length-sets l at xs) (omega (arith, leb-false)) in
        let over : length (sets l at xs) ≤ at + length xs = rw (length-sets l at xs) (omega (arith, leb-false)) in
        sets_past (sets l at xs) (place_after (length l) at (length xs)) ys past
        ∙ sym (sets_past (sets l at xs) (at + length xs) ys over)
        ∙ sets_append l at xs ys

-- no bytes change nothing
pub puts_nothing : (t : Text) → Puts [] t t
puts_nothing t = record { same_buffer = refl; place = omega arith; bytes = refl }

-- a text of the same bytes
pub puts_same : {s s₂ : List ℕ} {a b : Text} → Puts s a b → s ≡ s₂ → Puts s₂ a b
puts_same p e = record { same_buffer = p.same_buffer; place = p.place ∙ rw e; bytes = p.bytes ∙ rw e }

-- one text after another
pub puts_then : {s t : List ℕ} {a b c : Text} → Puts s a b → Puts t b c → Puts (s ++ t) a c
puts_then {s = s} {t = t} {a = a} {b = b} p q =
    let l = a.out.now in
    let same : length b.out.now ≡ length l = ap length p.bytes ∙ length-sets l a.at s in
    record {
      same_buffer = q.same_buffer ∙ p.same_buffer;
      place = q.place ∙ rw (same, p.place, length-append s t) (after_after (length l) a.at (length s) (length t));
      bytes = q.bytes ∙ rw (p.bytes, p.place) (put_append l a.at s t);
    }

-- a text that was put at the front of a buffer with room for it: it stands there whole
pub puts_whole : {s buffer : List ℕ} {a b : Text} → Begun a buffer → Puts s a b → length s ≤ length buffer → take b.at b.out.now ≡ s
unfolding overlay
puts_whole {s} {buffer} {a} {b} begun p fits =
    let none : 0 + length s ≡ length s = omega arith in
    let front : sets buffer 0 s ≡ s ++ drop (length s) buffer = sets-eq s buffer 0 (omega arith) ∙ rw none in
    let end : b.at ≡ length s = p.place ∙ rw (begun.front, begun.untouched) (omega arith) in
    rw (end, p.bytes, begun.front, begun.untouched, front) (overlay_take s buffer)
