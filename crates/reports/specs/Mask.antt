-- Masks of bits: a list with an element for each digit that is set, and the mask of a test over a list.
use Rattle.std.specs.Prelude.{ℕ, zero, suc, ◌+◌, ◌*◌, Bool, cond, List, [], ◌∷◌}

-- (ours) one element more, where the digit is set
abbrev pub if_set : {A : Type 0} → ℕ → A → List A → List A
if_set zero x l = l
if_set (suc d) x l = x ∷ l

-- (ours) the digit of a test
abbrev pub digit : Bool → ℕ
digit b = cond b 1 0

-- (ours) the mask of the elements that pass the test: the first of the list has the lowest digit
unfoldable pub mask_where : {A : Type 0} → (A → Bool) → List A → ℕ
mask_where p [] = 0
mask_where p (x ∷ l) = mask_where p l * 2 + digit (p x)
