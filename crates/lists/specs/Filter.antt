-- Tests and properties over a list: which elements pass, whether some or every one does.
use Rattle.std.specs.Prelude.{List, [], ◌∷◌}
-- (ours) the elements that pass the test, in order
pub use Rattle.std.specs.List.{filter}
-- (ours) some element passes the test
pub use Rattle.std.specs.List.{list_any as any}
-- (ours) every element passes the test
pub use Rattle.std.specs.List.{list_all as every}

module _ {A : Type 0} where
  -- (ours) every element has the property
  abbrev pub All : (A → Type 0) → List A → Type 0
  All P [] = Unit {0}
  All P (x ∷ l) = P x × All P l
