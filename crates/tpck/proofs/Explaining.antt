-- Every step is explained by a sentence of document 01, at every receiver whose open packet has no more bytes than it announces;
-- a fresh receiver is such a one, and every byte leaves such a one. Assumes nothing.
use Rattle.std.proofs.Common.{◌≡◌, ℕ, ◌+◌, ◌≤◌, true, false, List, [], ◌∷◌, ◌++◌, length, get_or, take, sym, refl, ap, ◌∙◌, subst, arith, length-append, leb-false, leb-true}
use mathlib.Core.Bool.{false≢true}
use Rattle.tpck.specs.Event.{drop_with, frame_of}
use Rattle.tpck.specs.Frame.{eof, header, length_of, type_of, data_of}
use Rattle.tpck.specs.Receive.{State, Step, step, full, summed, told_of}
use Rattle.tpck.specs.Line.{hunting}
use Rattle.tpck.specs.Explained.{Inside, Unescaped, Lacks, empty, short, Exact, exact, Explained, pending, started, restarted, early, wrong_sum, complete, idle, skipped, added, too_long}
use Rattle.tpck.proofs.Bodies.{full_cons, exact_body, ended_length, summed_right, summed_wrong}
use Rattle.tpck.proofs.Ways.{Way, pends, opens, restarts, idles, ends_early, ends_wrong, completes, skips, adds, overflows, step_way}

-- no more bytes than the first announces
pub data Within : List ℕ → Type 0 where
  none : Within []
  some : {n : ℕ} {rest : List ℕ} → length (n ∷ rest) ≤ n + 3 → Within (n ∷ rest)

-- so much of an open packet
unfoldable pub Sound : State → Type 0
Sound s = s.inside ≡ true → Within s.body

lacks : (l : List ℕ) → full l ≡ false → Lacks l
lacks [] e = empty
lacks (n ∷ rest) e = short (leb-false (n + 3) (length (n ∷ rest)) (sym (full_cons n rest) ∙ e))

exactly : {l : List ℕ} → Within l → full l ≡ true → Exact l
exactly none e = absurd (false≢true e)
exactly (some {n = n} {rest = rest} h) e =
    let k : n + 3 ≤ length (n ∷ rest) = leb-true (n + 3) (length (n ∷ rest)) (sym (full_cons n rest) ∙ e) in
    exact {n = n} {rest = rest} (omega arith)

pub exact_length : {l : List ℕ} → Exact l → length_of l + 3 ≡ length l
exact_length (exact h) = sym h

-- one byte more
within_more : (l : List ℕ) (b : ℕ) → Lacks l → Within (l ++ b ∷ [])
within_more l b empty = some {n = b} {rest = []} (omega arith)
within_more l b (short {n = n} {rest = rest} h) = some {n = n} {rest = rest ++ b ∷ []} (omega (arith, length-append rest (b ∷ [])))

module _ (s : State) (b : ℕ) (sound : Sound s) where
  -- a drop, by another name of its count
  counted : (number : ℕ) {m n : ℕ} {u : State} → m ≡ n → Explained s b (drop_with number m) u → Explained s b (drop_with number n) u
  counted number {m} {n} {u} e = subst (λ (k : ℕ). Explained s b (drop_with number k) u) e

  -- EOF after exactly N + 3 bytes
  module _ (i : Inside s) (u : Unescaped s b eof) where
    complete_explained : (l : List ℕ) → s.body ≡ l → Exact l → summed l ≡ true
        → Explained s b (frame_of (type_of l) (data_of l)) (hunting s.body)
    complete_explained l e (exact {n = n} {rest = []} h) m = let no : ⊥ = omega arith in absurd no
    complete_explained l e (exact {n = n} {rest = ptype ∷ rest} h) m =
        complete ptype (take n rest) i u
        (e ∙ exact_body n ptype rest (omega arith) ∙ ap (λ (c : ℕ). header ptype (take n rest) ++ c ∷ []) (summed_right n ptype rest (omega arith) m))

    wrong_explained : (l : List ℕ) → s.body ≡ l → Exact l → summed l ≡ false → Explained s b (drop_with 6 (length s.body)) (hunting s.body)
    wrong_explained l e (exact {n = n} {rest = []} h) m = let no : ⊥ = omega arith in absurd no
    wrong_explained l e (exact {n = n} {rest = ptype ∷ rest} h) m =
        let whole = e ∙ exact_body n ptype rest (omega arith) in
        counted 6 (ended_length ptype (take n rest) (get_or rest n 0) ∙ ap length (sym whole))
        (wrong_sum ptype (take n rest) (get_or rest n 0) i u whole (summed_wrong n ptype rest (omega arith) m))

  way_explained : {t : Step} → Way s b t → Explained s b (told_of t) t.next
  unfolding Sound
  way_explained (pends u) = pending u
  way_explained (opens h u) = started h u
  way_explained (restarts i u) = restarted i u
  way_explained (idles h u) = idle h u
  way_explained (ends_early i u f) = early i u (lacks s.body f)
  way_explained (ends_wrong i u f m) = wrong_explained i u s.body refl (exactly (sound i) f) m
  way_explained (completes i u f m) = complete_explained i u s.body refl (exactly (sound i) f) m
  way_explained (skips h p) = skipped h p
  way_explained (adds i p f) = added i p (lacks s.body f)
  way_explained (overflows i p f) =
      let x = exactly (sound i) f in
      counted 5 (exact_length x) (too_long i p x)

  pub explained : Explained s b (told_of (step s b)) (step s b).next
  explained = way_explained (step_way s b)

  way_sound : {t : Step} → Way s b t → Sound t.next
  unfolding Sound
  way_sound (pends u) = sound
  way_sound (opens h u) = λ e. none
  way_sound (restarts i u) = λ e. none
  way_sound (idles h u) = λ e. absurd (false≢true e)
  way_sound (ends_early i u f) = λ e. absurd (false≢true e)
  way_sound (ends_wrong i u f m) = λ e. absurd (false≢true e)
  way_sound (completes i u f m) = λ e. absurd (false≢true e)
  way_sound (skips h p) = λ e. absurd (false≢true e)
  way_sound (adds i p f) = λ e. within_more s.body b (lacks s.body f)
  way_sound (overflows i p f) = λ e. absurd (false≢true e)

  pub step_sound : Sound (step s b).next
  step_sound = way_sound (step_way s b)
