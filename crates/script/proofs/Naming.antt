-- Words in a table: the steps of a loop that looks for one, and the call of a first word. Assumes nothing.
use Rattle.std.proofs.Common.{◌≡◌, ℕ, ◌+◌, ◌≤◌, ◌<◌, true, false, List, [], ◌∷◌, length, get_or, drop, Some, None, Bor, refl, arith, add-one, drop-cons}
use Rattle.std.proofs.Math.ListN.{drop_of_length-le}
use Rattle.lists.specs.Equal.{equal}
use borrow.Author.Tests.{eq-eqb, ne_eqb}
use Rattle.script.specs.declared.names.Call.TheVariants.{Nothing}
use Rattle.script.specs.Names.{rows, named, call_named, first_call}

module _ {X : Type 0} (table : List (Bor (List ℕ) × X)) (w : List ℕ) (i : ℕ) where
  -- no row is left
  pub named_end : length table ≤ i → named (rows (drop i table)) w ≡ None
  unfolding named
  named_end h = rw (drop_of_length-le table {i = i} h)

  module _ (row : Bor (List ℕ) × X) (h : i < length table) (is : row ≡ get_or table i row) where
    -- the row has the word
    pub named_hit : equal w row.0.now ≡ true → named (rows (drop i table)) w ≡ Some row.1
    unfolding named
    named_hit e = rw (drop-cons table i row h, ← is, e)

    -- the row has another word
    pub named_pass : equal w row.0.now ≡ false → named (rows (drop i table)) w ≡ named (rows (drop (i + 1) table)) w
    unfolding named
    named_pass e = rw (add-one, drop-cons table i row h, ← is, e)

-- ---- the first word of a line

pub first_none : (w : List ℕ) → length w < 1 → first_call w ≡ Some Nothing
unfolding first_call
first_none [] h = refl
first_none (b ∷ w) h = absurd (omega arith)

pub first_comment : (w : List ℕ) → 1 ≤ length w → get_or w 0 0 ≡ 35 → first_call w ≡ Some Nothing
unfolding first_call
first_comment [] h e = absurd (omega arith)
first_comment (b ∷ w) h e = rw (eq-eqb b 35 e)

pub first_named : (w : List ℕ) → 1 ≤ length w → (get_or w 0 0 ≡ 35 → ⊥) → first_call w ≡ call_named w
unfolding first_call
first_named [] h n = absurd (omega arith)
first_named (b ∷ w) h n = rw (ne_eqb b 35 n)
