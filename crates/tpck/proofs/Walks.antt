-- A walk along a list from some state on, that may stop before the end: what it comes to after the first i elements. `walk` is the walk,
-- and `further n` what it comes to where n elements were passed before it. Assumes nothing.
use Rattle.std.proofs.Common.{◌≡◌, ℕ, ◌+◌, ◌<◌, List, [], ◌∷◌, length, get_or, drop, sym, ap, ◌∙◌, add-one, drop-cons}
use lib.Seq.{drop-length}

module _ {S R : Type 0} (walk : S → List ℕ → R) (further : ℕ → R → R) where
  -- the rest of the walk from s and the i-th element on is what is left of the walk from s₀
  abbrev pub Rest : S → List ℕ → S → ℕ → Type 0
  Rest s₀ line s i = walk s₀ line ≡ further i (walk s (drop i line))

  module _ {s₀ : S} {line : List ℕ} {s : S} {i : ℕ} (so : Rest s₀ line s i) where
    here : i < length line → walk s (drop i line) ≡ walk s (get_or line i 0 ∷ drop (i + 1) line)
    here h = ap (walk s) (drop-cons line i 0 h ∙ ap (λ (n : ℕ). get_or line i 0 ∷ drop n line) (sym (add-one i)))

    -- the walk stops at this element
    pub walk_stopped : i < length line → {x : R} → walk s (get_or line i 0 ∷ drop (i + 1) line) ≡ x → walk s₀ line ≡ further i x
    walk_stopped h e = so ∙ ap (further i) (here h ∙ e)

    -- it goes on after it
    pub walk_went : ((x : R) → further i (further 1 x) ≡ further (i + 1) x) → i < length line → {t : S}
        → walk s (get_or line i 0 ∷ drop (i + 1) line) ≡ further 1 (walk t (drop (i + 1) line)) → Rest s₀ line t (i + 1)
    walk_went more h e = walk_stopped h e ∙ more _

    -- all elements are passed
    pub walk_ended : i ≡ length line → walk s₀ line ≡ further i (walk s [])
    walk_ended e = so ∙ ap (λ (l : List ℕ). further i (walk s l)) (ap (λ (n : ℕ). drop n line) e ∙ drop-length line)
