-- A place in a slice of bytes (ours): the first one from a place on that passes a test.
use Rattle.std.specs.Prelude.{ℕ, Bool, List, eqb, length, drop}
use Rattle.std.proofs.Math.Option.{Option, none, some}
use Rattle.lists.specs.Search.{place_from}

-- (ours) a place that was found, else the end
abbrev pub place_or : ℕ → Option ℕ → ℕ
place_or end none = end
place_or end (some i) = i

-- (ours) the first place from `at` on that passes the test; the end where there is none
unfoldable pub place_where : (ℕ → Bool) → List ℕ → ℕ → ℕ
place_where p l at = place_or (length l) (place_from p (drop at l) at)

-- (ours) the first place from `at` on that holds b
abbrev pub place_of : ℕ → List ℕ → ℕ → ℕ
place_of b l at = place_where (λ x. eqb x b) l at
