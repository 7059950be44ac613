-- What a program prints of an input that it reads in blocks (ours).
--
-- The program keeps something from block to block. A block takes it to what is kept after it, and has lines.
use Rattle.std.specs.Prelude.{ℕ, List, [], ◌∷◌, ◌++◌}

module _ {K : Type 0} (after : K → List ℕ → K) (lines : K → List ℕ → List ℕ) where
  -- (ours) the lines of blocks that come one after another, each to what the one before it left
  unfoldable pub printed : K → List (List ℕ) → List ℕ
  printed k [] = []
  printed k (block ∷ blocks) = lines k block ++ printed (after k block) blocks
