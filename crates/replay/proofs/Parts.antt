-- The bytes of a line that are kept, and what a part of the input does: bytes without a newline, and then one. Assumes nothing.
use Rattle.std.proofs.Common.{◌≡◌, ℕ, suc, ◌+◌, ◌-◌, ◌<◌, ◌≤◌, min, Bool, true, false, cond, ◌||◌, eqb, ltb, leb, List, [], ◌∷◌, ◌++◌, length, take, drop, set, sym, refl, ap, ◌∙◌, add-one, arith, length-drop, length-set, length-take, take_all, take-suc, take-suc-set, ltb-false, ltb-true, le-ltb, lt-ltb, eq-eqb, ne_eqb, le-leb, leb-false, leb-true}
use Rattle.std.specs.Prelude.{◌==◌}
use mathlib.Core.List.{foldl, foldl-append}
use borrow.Author.Tests.{eqb-false, lt-leb}
use Rattle.std.proofs.lemmas.List.{take-append-drop}
use lib.Seq.{sets}
use Rattle.lists.specs.Filter.{All}
use Rattle.lists.specs.Outputs.{outputs}
use Rattle.lists.proofs.Stores.{sets_past}
use Rattle.lists.proofs.Loops.{outputs_append}
use Rattle.text.specs.Place.{place_after, newline}
use Rattle.text.specs.Report.{wrapping, report}
use Rattle.text.specs.Place.{Puts}
use Rattle.text.specs.declared.place.Text.{Text}
use Rattle.text.proofs.Places.{puts_nothing, puts_same}
use Rattle.text.proofs.Scans.{place_between, place_first}
use Rattle.gateway.specs.declared.gateway.Gateway.{Gateway}
use Rattle.replay.specs.Progress.{State, longer, next, text_of, line_text, line_ended, used_of, line_end, after_bytes, printed_of, last_of}
use Rattle.interpreter.specs.Limits.{longest}
use Rattle.text.proofs.Reports.{report_one}

-- ---- bytes of a line

or_false : (a : Bool) → a || false ≡ a
or_false true = refl
or_false false = refl

or_true : (a : Bool) → a || true ≡ true
or_true true = refl
or_true false = refl

-- the line is over where more bytes come than there is room for
abbrev pub over_by : ℕ → ℕ → Bool → Bool
over_by room n over = over || ltb room n

after_past : (size k n : ℕ) → size ≤ k → place_after size k n ≡ k
after_past size k n h = omega arith

after_suc : (size k n : ℕ) → k < size → place_after size k (suc n) ≡ place_after size (suc k) n
after_suc size k n h = omega arith

room_suc : (size k n : ℕ) → n ≡ min k size → k < size → size - n ≡ suc (size - suc k)
room_suc size k n e h = omega arith

module _ (g : Gateway) (lines : ℕ) (more : List ℕ) where
  -- a state with these bytes kept
  abbrev pub keeping : List ℕ → Bool → State
  keeping kept over = record { gateway = g; lines = lines; kept = kept; over = over; more = more }

  over_same : (m n : ℕ) (over : Bool) → over_by m n over ≡ over_by (suc m) (suc n) over
  over_same m n over = go (ltb m n) refl
    where
      go : (t : Bool) → ltb m n ≡ t → over || t ≡ over_by (suc m) (suc n) over
      go true e = rw (lt-ltb (suc m) (suc n) (omega (arith, ltb-true m n e)))
      go false e = rw (le-ltb (suc m) (suc n) (omega (arith, ltb-false m n e)))

  -- bytes put after those kept
  pub kept_longer : (bytes line : List ℕ) (k : ℕ) (over : Bool) → length line ≡ longest
      → foldl longer (keeping (take k line) over) bytes
      ≡ keeping (take (place_after longest k (length bytes)) (sets line k bytes)) (over_by (longest - length (take k line)) (length bytes) over)
  unfolding longer
  kept_longer [] line k over long =
      let e : place_after longest k 0 ≡ k = omega arith in
      let t = le-ltb (longest - length (take k line)) 0 (omega arith) in
      rw (e, t, or_false over)
  kept_longer (b ∷ bytes) line k over long =
      go (leb longest k) refl (λ o. kept_longer bytes line k o long) (λ o. kept_longer bytes (set line k b) (suc k) o (length-set line k b ∙ long))
    where
      taken : length (take k line) ≡ min k longest
      taken = length-take k line ∙ rw long

      -- the bytes after the first, from a state with the same bytes or with one more
      After : List ℕ → ℕ → Type 0
      After l j =
          (o : Bool)
          → foldl longer (keeping (take j l) o) bytes
          ≡ keeping (take (place_after longest j (length bytes)) (sets l j bytes)) (over_by (longest - length (take j l)) (length bytes) o)

      go : (t : Bool) → leb longest k ≡ t → After line k → After (set line k b) (suc k)
          → foldl longer (keeping (take k line) over) (b ∷ bytes)
          ≡ keeping (take (place_after longest k (suc (length bytes))) (sets line k (b ∷ bytes))) (over_by (longest - length (take k line)) (suc (length bytes)) over)
      go true e rest next-line =
          let far = leb-true longest k e in
          let full : leb longest (length (take k line)) ≡ true = le-leb longest (length (take k line)) (omega (arith, taken)) in
          let room : longest - length (take k line) ≡ 0 = omega (arith, taken) in
          let past : length line ≤ k = omega arith in
          let some : over_by 0 (suc (length bytes)) over ≡ true = rw (lt-ltb 0 (suc (length bytes)) (omega arith)) (or_true over) in
          let one = after_past longest k (suc (length bytes)) far in
          let more = after_past longest k (length bytes) far in
          let i = rest true in
          rw (full, room, some, one, sets_past line k (b ∷ bytes) past)
          (rw (more, sets_past line k bytes past) at i)
      go false e rest next-line =
          let near = leb-false longest k e in
          let less : leb longest (length (take k line)) ≡ false = lt-leb longest (length (take k line)) (omega (arith, taken)) in
          let one : take (suc k) (set line k b) ≡ take k line ++ b ∷ [] = take-suc-set line k b (omega arith) in
          let moved = after_suc longest k (length bytes) near in
          let size : length (take (suc k) (set line k b)) ≡ suc k = length-take (suc k) (set line k b) ∙ rw (length-set line k b) (omega arith) in
          let room = room_suc longest k (length (take k line)) taken near in
          let i = next-line over in
          rw (less, moved, room, ← over_same (longest - suc k) (length bytes) over, ← one) (rw size at i)

-- what the code keeps of them
pub kept_extended : (g : Gateway) (lines : ℕ) (more : List ℕ) {t u : Text} {bytes : List ℕ} → Puts bytes t u → length t.out.now ≡ longest → (over : Bool)
    → keeping g lines more (take u.at u.out.now) (over_by (longest - length (take t.at t.out.now)) (length bytes) over)
    ≡ foldl longer (keeping g lines more (take t.at t.out.now) over) bytes
kept_extended g lines more {t} {u} {bytes} p long over =
    rw (p.place, p.bytes, long) (sym (kept_longer g lines more bytes t.out.now t.at over long))

-- ---- bytes without a newline, and a newline

module _ (s : State) where
  plain : (b : ℕ) → eqb b newline ≡ false → (t : State) → next t b ≡ longer t b
  unfolding next
  plain b e t = rw e

pub plain_state : (bytes : List ℕ) (s : State) → All (λ b. eqb b newline ≡ false) bytes → foldl next s bytes ≡ foldl longer s bytes
plain_state [] s h = refl
plain_state (b ∷ bytes) s h = rw (plain s b h.0 s) (plain_state bytes (longer s b) h.1)

plain_text : (bytes : List ℕ) (s : State) (offset : ℕ) → All (λ b. eqb b newline ≡ false) bytes → report next text_of s offset bytes ≡ []
unfolding outputs text_of
plain_text [] s offset h = refl
plain_text (b ∷ bytes) s offset h = rw h.0 (plain_text bytes (next s b) (offset + 1) h.1)

-- a line without its end
pub part_open : (s : State) (bytes : List ℕ) → All (λ b. eqb b newline ≡ false) bytes → printed_of s bytes ≡ []
part_open s bytes h = plain_text bytes s 0 h

-- a line with its end
module _ (s : State) (bytes : List ℕ) (none : All (λ b. eqb b newline ≡ false) bytes) where
  pub part_state : after_bytes s (bytes ++ newline ∷ []) ≡ line_ended (foldl longer s bytes)
  unfolding next
  part_state = rw (foldl-append next s bytes (newline ∷ []), plain_state bytes s none)

  pub part_text : printed_of s (bytes ++ newline ∷ []) ≡ line_text (foldl longer s bytes)
  unfolding text_of
  part_text =
      rw (outputs_append next (wrapping text_of) 0 s bytes (newline ∷ []), report_one next text_of (foldl next s bytes) (0 + length bytes) newline, part_open s bytes none, plain_state bytes s none)

-- ---- one step of the code

-- what a step promises: how many bytes it uses, the state after them, and their text
pub record Stepped (s : State) (bytes : List ℕ) (n : ℕ) (t : State) (before after : Text) : Type 0 where
  pub used : n ≡ used_of bytes
  pub state : t ≡ after_bytes s (take (used_of bytes) bytes)
  pub text : Puts (printed_of s (take (used_of bytes) bytes)) before after

module _ (s : State) (bytes : List ℕ) {end : ℕ} (found : end ≡ line_end bytes) where
  none : All (λ b. eqb b newline ≡ false) (take end bytes)
  none = (place_first newline bytes found).0

  -- no newline: all bytes are used, and nothing is printed
  module _ (all : end ≡ length bytes) where
    used_open : used_of bytes ≡ end
    unfolding used_of
    used_open = rw (← found, eq-eqb end (length bytes) all) (sym all)

    pub printed_open : printed_of s (take (used_of bytes) bytes) ≡ []
    printed_open = rw used_open (part_open s (take end bytes) none)

  -- a newline: the line is used with it, and its text is printed
  module _ (inside : end ≡ length bytes → ⊥) where
    used_line : used_of bytes ≡ end + 1
    unfolding used_of
    used_line = rw (← found, ne_eqb end (length bytes) inside) refl

    line_taken : take (used_of bytes) bytes ≡ take end bytes ++ newline ∷ []
    line_taken =
        let less : end < length bytes = omega (arith, place_between newline bytes 0 found (omega arith)) in
        rw (used_line, add-one, take-suc bytes end 0 less, (place_first newline bytes found).1 less) refl

    pub printed_line : printed_of s (take (used_of bytes) bytes) ≡ line_text (foldl longer s (take end bytes))
    printed_line = rw line_taken (part_text s (take end bytes) none)

  module _ {t : State} (longer-is : t ≡ foldl longer s (take end bytes)) where
    pub step_open : (all : end ≡ length bytes) → (text : Text) → Stepped s bytes end t text text
    step_open all text =
        record {
          used = sym (used_open all);
          state = rw (used_open all) (longer-is ∙ sym (plain_state (take end bytes) s none));
          text = puts_same (puts_nothing text) (sym (printed_open all));
        }

    pub step_line : (inside : end ≡ length bytes → ⊥) → {u : State} → u ≡ line_ended t → {before after : Text} → Puts (line_text t) before after
        → Stepped s bytes (end + 1) u before after
    step_line inside {u} ended put =
        let state : u ≡ after_bytes s (take end bytes ++ newline ∷ []) = ended ∙ rw longer-is (sym (part_state s (take end bytes) none)) in
        record {
          used = sym (used_line inside);
          state = rw (line_taken inside) state;
          text = puts_same put (ap line_text longer-is ∙ sym (printed_line inside));
        }

-- a step uses a byte where there is one, and no more than there are
pub used_some : (bytes : List ℕ) → 0 < length bytes → (0 < used_of bytes) × (used_of bytes ≤ length bytes)
unfolding used_of
used_some bytes some = go (eqb (line_end bytes) (length bytes)) refl
  where
    go : (t : Bool) → eqb (line_end bytes) (length bytes) ≡ t
        → (0 < cond t (length bytes) (line_end bytes + 1)) × (cond t (length bytes) (line_end bytes + 1) ≤ length bytes)
    go true e = (some, omega arith)
    go false e =
        let inside = eqb-false (line_end bytes) (length bytes) e in
        (omega arith, omega (arith, place_between newline bytes 0 refl (omega arith)))

-- ---- the bytes of a block that are left after a step

pub some_left : (l : List ℕ) → false ≡ (length l == 0) → 0 < length l
some_left [] e = cc
some_left (b ∷ l) e = omega arith

pub fewer_left : (l : List ℕ) (n : ℕ) → 0 < n → n ≤ length l → length (take (length l - n) (drop n l)) < length l
fewer_left l n some within = omega (arith, length-take (length l - n) (drop n l), length-drop n l)

pub step_left : (s t : State) (l : List ℕ) (n : ℕ) → t ≡ after_bytes s (take n l) → after_bytes t (take (length l - n) (drop n l)) ≡ after_bytes s l
step_left s t l n e =
    let rest : take (length l - n) (drop n l) ≡ drop n l = take_all (length l - n) (drop n l) (omega (arith, length-drop n l)) in
    rw (rest, e) (sym (foldl-append next s (take n l) (drop n l)) ∙ ap (after_bytes s) (take-append-drop n l))

-- a last line that has a byte
pub last_some : (s : State) (l : List ℕ) → (length l ≡ 0 → ⊥) → last_of s l ≡ line_text s
unfolding last_of
last_some s [] n = absurd (n refl)
last_some s (b ∷ l) n = refl
