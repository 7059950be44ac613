-- However a script is cut into blocks and steps, what is printed of them one after another is what is printed of the whole. Assumes nothing.
use Rattle.std.proofs.Common.{◌≡◌, ℕ, ◌+◌, ◌%◌, ◌^◌, List, [], ◌∷◌, ◌++◌, length, sym, refl, ap, ◌∙◌}
use mathlib.Core.List.{flatten, foldl, foldl-append}
use Rattle.lists.specs.Outputs.{outputs}
use Rattle.lists.proofs.Loops.{outputs_nil}
use Rattle.text.specs.Report.{wrapping, report}
use Rattle.text.specs.Blocks.{printed}
use Rattle.text.proofs.Reports.{parts_make_whole}
use Rattle.text.proofs.Blocks.{blocks_make_whole}
use Rattle.replay.specs.Progress.{State, at_first, next, text_of, after_bytes, printed_of, last_of, replayed}

-- what is printed does not depend on the offset
any_offset : (s : State) (m n : ℕ) (bytes : List ℕ) → report next text_of s m bytes ≡ report next text_of s n bytes
unfolding outputs text_of
any_offset s m n [] = refl
any_offset s m n (b ∷ bytes) = rw (any_offset (next s b) (m + 1) (n + 1) bytes)

-- Cut at any place: what is printed of the first part, and after it what is printed of the rest from the state after the first.
pub parts_printed : (s : State) (xs ys : List ℕ) → printed_of s (xs ++ ys) ≡ printed_of s xs ++ printed_of (after_bytes s xs) ys
parts_printed s xs ys =
    parts_make_whole next text_of s 0 xs ys
    ∙ ap (λ (l : List ℕ). printed_of s xs ++ l) (any_offset (after_bytes s xs) ((0 + length xs) % 2 ^ 64) 0 ys)

-- Blocks that are read one after another, each from the state that the one before it left.
pub blocks_printed : (s : State) (blocks : List (List ℕ)) → printed after_bytes printed_of s blocks ≡ printed_of s (flatten blocks)
blocks_printed = blocks_make_whole after_bytes printed_of (λ s. outputs_nil next (wrapping text_of) 0 s) parts_printed

-- the state after blocks is the state after the whole
blocks_state : (s : State) (blocks : List (List ℕ)) → foldl after_bytes s blocks ≡ after_bytes s (flatten blocks)
unfolding flatten
blocks_state s [] = refl
blocks_state s (block ∷ blocks) = blocks_state (after_bytes s block) blocks ∙ sym (foldl-append next s block (flatten blocks))

-- A whole run: what is printed of the blocks of a script, and at its end, is what `replayed` says of the script.
pub run_printed : (blocks : List (List ℕ))
    → (let last = foldl after_bytes at_first blocks in printed after_bytes printed_of at_first blocks ++ last_of last last.kept) ≡ replayed (flatten blocks)
run_printed blocks = rw (blocks_printed at_first blocks, blocks_state at_first blocks)
