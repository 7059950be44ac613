-- Bytes that don't matter to a hunt: how many stand at the front, and the hunt without them. Assumes nothing.
use Rattle.std.specs.List.{prefix_len}
use Rattle.std.proofs.Common.{cond, not, take_while, length-take-le, ◌≡◌, ℕ, suc, ◌+◌, ◌≤◌, Bool, true, false, eqb, List, [], ◌∷◌, length, drop, refl, ap, ◌∙◌, arith, drop-drop}
use Rattle.lists.proofs.Clash.{clash}
use Rattle.lists.proofs.Filters.{or_left, or_right}
use Rattle.tpck.specs.Frame.{sof, esc}
use Rattle.tpck.specs.Scan.{hunt, hunted_after, is_mark, skip, skip_if}
use Rattle.tpck.proofs.Walks.{Rest}
use Rattle.tpck.proofs.Hunts.{hunted_none, hunted_more, hunt_on}

-- no more are passed than there are
pub skip_within : (escaped : Bool) (line : List ℕ) → skip escaped line ≤ length line
unfolding skip
skip_within escaped [] = omega arith
skip_within escaped (b ∷ bs) = go (is_mark escaped b) (skip_within escaped bs)
  where
    go : (t : Bool) → skip escaped bs ≤ length bs → skip_if (skip escaped bs) t ≤ length (b ∷ bs)
    go true h = omega arith
    go false h = omega arith

-- they are those that std's `take_while` takes
skip_prefix : (escaped : Bool) (line : List ℕ) → prefix_len (λ b. not (is_mark escaped b)) line ≡ skip escaped line
unfolding skip
skip_prefix escaped [] = refl
skip_prefix escaped (b ∷ bs) = go (is_mark escaped b) (skip_prefix escaped bs)
  where
    go : (t : Bool) → prefix_len (λ b. not (is_mark escaped b)) bs ≡ skip escaped bs
        → cond (not t) (1 + prefix_len (λ b. not (is_mark escaped b)) bs) 0 ≡ skip_if (skip escaped bs) t
    go true e = refl
    go false e = omega (arith, e)

pub skip_takes : (escaped : Bool) (line : List ℕ) → length (take_while (λ b. not (is_mark escaped b)) line) ≡ skip escaped line
skip_takes escaped line =
    let e = skip_prefix escaped line in
    length-take-le (prefix_len (λ b. not (is_mark escaped b)) line) line (omega (arith, e, skip_within escaped line)) ∙ e

-- a byte that doesn't matter leaves the hunt as it is
hunt_passes : (escaped : Bool) (b : ℕ) (bs : List ℕ) → is_mark escaped b ≡ false
    → hunt escaped (b ∷ bs) ≡ hunted_after 1 (hunt escaped bs)
hunt_passes true b bs t = clash cc
hunt_passes false b bs t =
    hunt_on false b bs (or_left (eqb b sof) (eqb b esc) t)
    ∙ ap (λ (e : Bool). hunted_after 1 (hunt e bs)) (or_right (eqb b sof) (eqb b esc) t)

-- what the hunt comes to after n bytes at the front
abbrev Passed : (escaped : Bool) → List ℕ → ℕ → Type 0
Passed escaped line n = hunt escaped line ≡ hunted_after n (hunt escaped (drop n line))

pub hunt_skips : (escaped : Bool) (line : List ℕ) → Passed escaped line (skip escaped line)
unfolding skip
hunt_skips escaped [] = hunted_none (hunt escaped [])
hunt_skips escaped (b ∷ bs) = go (is_mark escaped b) refl (hunt_skips escaped bs)
  where
    go : (t : Bool) → is_mark escaped b ≡ t → Passed escaped bs (skip escaped bs)
        → Passed escaped (b ∷ bs) (skip_if (skip escaped bs) t)
    go true t h = hunted_none (hunt escaped (b ∷ bs))
    go false t h =
        let n = skip escaped bs in
        let e : 1 + n ≡ suc n = omega arith in
        hunt_passes escaped b bs t
        ∙ ap (hunted_after 1) h
        ∙ hunted_more 1 n (hunt escaped (drop n bs))
        ∙ ap (λ (k : ℕ). hunted_after k (hunt escaped (drop n bs))) e

-- along a walk, the rest of the hunt is that without them
pub walk_skipped : (s₀ : Bool) (line : List ℕ) (s : Bool) (i : ℕ) → Rest hunt hunted_after s₀ line s i
    → Rest hunt hunted_after s₀ line s (i + skip s (drop i line))
walk_skipped s₀ line s i so =
    let n = skip s (drop i line) in
    so
    ∙ ap (hunted_after i) (hunt_skips s (drop i line))
    ∙ hunted_more i n (hunt s (drop n (drop i line)))
    ∙ ap (λ (l : List ℕ). hunted_after (i + n) (hunt s l)) (drop-drop n i line)
