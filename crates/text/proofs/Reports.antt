-- The texts of bytes: of none, of one, of blocks one after another, and of the bytes that a loop has used. Assumes nothing.
use Prim.Native.Nat.{ℕ, ◌+◌, ◌*◌, ◌%◌, ◌^◌, ◌≤◌, ◌<◌}
use mathlib.Core.Path.{◌≡◌, refl, sym, ◌∙◌, ap}
use mathlib.Core.List.{List, [], ◌∷◌, ◌++◌, foldl, foldl-append, flatten}
use native.Mathlib.Nat.{mod-mod, mod-add-mod}
use native.Mathlib.Omega.{arith}
use lib.ListN.{length, take, drop, get_or, length-append}
use lib.Seq.{take_all, length-take-le}
use Rattle.std.proofs.Common.{mul-le-mul_right, add-mul, one-mul, take-add, drop-cons}
use Rattle.lists.specs.Outputs.{outputs}
use Rattle.lists.proofs.Loops.{outputs_nil, outputs_one, outputs_append}
use Rattle.text.specs.Blocks.{printed}
use Rattle.text.specs.Place.{Puts}
use Rattle.text.specs.Report.{wrapping, report, Carried, carried_after, lines_of}
use Rattle.text.specs.declared.place.Text.{Text}
use Rattle.text.proofs.Blocks.{blocks_make_whole}
use Rattle.text.proofs.Places.{puts_nothing, puts_then}

module _ {S : Type 0} (next : S → ℕ → S) (text : ℕ → S → ℕ → List ℕ) where
  -- of one byte
  pub report_one : (s : S) (offset b : ℕ) → report next text s offset (b ∷ []) ≡ text (offset % 2 ^ 64) s b
  report_one s offset b = outputs_one next (wrapping text) offset s b

  -- only the offset modulo 2^64 counts
  report_modulo : (s : S) (offset : ℕ) (bs : List ℕ) → report next text s (offset % 2 ^ 64) bs ≡ report next text s offset bs
  unfolding outputs
  report_modulo s offset [] = refl
  report_modulo s offset (b ∷ bs) =
      let t = next s b in
      let e : ((offset % 2 ^ 64) + 1) % 2 ^ 64 ≡ (offset + 1) % 2 ^ 64 = mod-add-mod offset (2 ^ 64) 1 in
      let tail : report next text t ((offset % 2 ^ 64) + 1) bs ≡ report next text t (offset + 1) bs =
      sym (report_modulo t ((offset % 2 ^ 64) + 1) bs) ∙ ap (λ (n : ℕ). report next text t n bs) e ∙ report_modulo t (offset + 1) bs in
      rw (mod-mod offset (2 ^ 64), tail)

  -- The parts make the whole: the texts of an input are those of its first part, then those of the rest, which starts in the state
  -- after the first part and at the offset that the program has counted to.
  pub parts_make_whole : (s : S) (offset : ℕ) (xs ys : List ℕ)
      → report next text s offset (xs ++ ys) ≡ report next text s offset xs ++ report next text (foldl next s xs) ((offset + length xs) % 2 ^ 64) ys
  parts_make_whole s offset xs ys = rw (report_modulo (foldl next s xs) (offset + length xs) ys) (outputs_append next (wrapping text) offset s xs ys)

  -- the same by what is kept: no bytes have no lines, and two parts have the lines of both
  pub no_lines : (k : Carried S) → lines_of next text k [] ≡ []
  no_lines k = outputs_nil next (wrapping text) k.offset k.state

  pub lines_of_both : (k left : Carried S) (xs ys : List ℕ) → left ≡ carried_after next k xs
      → lines_of next text k (xs ++ ys) ≡ lines_of next text k xs ++ lines_of next text left ys
  lines_of_both k left xs ys e =
      parts_make_whole k.state k.offset xs ys ∙ ap (λ (c : Carried S). lines_of next text k xs ++ lines_of next text c ys) (sym e)

  -- the same of blocks: cut anyhow, an input has the lines that it has as a whole
  pub report_of_blocks : (k : Carried S) (blocks : List (List ℕ))
      → printed (carried_after next) (lines_of next text) k blocks ≡ report next text k.state k.offset (flatten blocks)
  report_of_blocks =
      blocks_make_whole (carried_after next) (lines_of next text) no_lines (λ k. parts_make_whole k.state k.offset)

-- ---- a loop that puts the lines of the bytes of a block, from its front on

-- It has used the first i bytes: the state, and the text before and after their lines, which are no longer than `most` for each byte.
pub record Used {S : Type 0} (next : S → ℕ → S) (text : ℕ → S → ℕ → List ℕ) (k : Carried S) (block : List ℕ) (most : ℕ) (before after : Text) (now : S) (i : ℕ) : Type 0 where
  pub within : i ≤ length block
  pub state : now ≡ foldl next k.state (take i block)
  pub lines : Puts (lines_of next text k (take i block)) before after
  pub short : length (lines_of next text k (take i block)) ≤ i * most

module _ {S : Type 0} {next : S → ℕ → S} {text : ℕ → S → ℕ → List ℕ} {k : Carried S} {block : List ℕ} {most : ℕ} where
  -- nothing is used
  pub used_none : (t : Text) → Used next text k block most t t k.state 0
  used_none t =
      let none = outputs_nil next (wrapping text) k.offset k.state in
      record { within = omega arith; state = refl; lines = rw none (puts_nothing t); short = rw none (omega arith) }

  module _ {before after : Text} {now : S} {i : ℕ} (u : Used next text k block most before after now i) where
    -- n bytes more, whose lines are together no longer than those of one may be
    pub used_more : (n : ℕ) → 0 < n → i + n ≤ length block → {after₂ : Text} {now₂ : S}
        → now₂ ≡ foldl next now (take n (drop i block))
        → Puts (report next text now (k.offset + i) (take n (drop i block))) after after₂
        → length (report next text now (k.offset + i) (take n (drop i block))) ≤ most
        → Used next text k block most before after₂ now₂ (i + n)
    used_more n some within state put short =
        let front = take i block in
        let part = take n (drop i block) in
        let used : length front ≡ i = length-take-le i block u.within in
        let then = report next text now (k.offset + i) part in
        let whole : lines_of next text k (take (i + n) block) ≡ lines_of next text k front ++ then =
        ap (lines_of next text k) (take-add i n block) ∙ outputs_append next (wrapping text) k.offset k.state front part
        ∙ (λ j. lines_of next text k front ++ report next text (sym u.state j) (k.offset + used j) part) in
        let one : 1 * most ≤ n * most = mul-le-mul_right most (omega arith) in
        record {
          within = within;
          state =
              state ∙ ap (λ (s : S). foldl next s part) u.state ∙ sym (foldl-append next k.state front part)
              ∙ ap (foldl next k.state) (sym (take-add i n block));
          lines = rw whole (puts_then u.lines put);
          short =
              rw whole
              (omega (arith, length-append (lines_of next text k front) then, add-mul i n most, one-mul most, u.short, short, one));
        }

    -- all are used: what is kept, where the offset was counted on, and the lines
    pub used_all : length block ≤ i → {offset : ℕ} → offset ≡ (k.offset + length block) % 2 ^ 64
        → (record { state = now; offset = offset } ≡ carried_after next k block)
        × (Puts (lines_of next text k block) before after × (length (lines_of next text k block) ≤ length block * most))
    used_all done e =
        let all : take i block ≡ block = take_all i block done in
        let last : i ≡ length block = omega (arith, u.within) in
        let state = u.state ∙ ap (foldl next k.state) all in
        ((λ j. record { state = state j; offset = e j }), (rw all at u.lines, rw (all, last) at u.short))

    -- one byte more
    pub used_one : (b : ℕ) → b ≡ get_or block i 0 → i < length block → {after₂ : Text} {now₂ : S}
        → now₂ ≡ next now b → {line : List ℕ} → line ≡ text ((k.offset + i) % 2 ^ 64) now b → Puts line after after₂ → length line ≤ most
        → Used next text k block most before after₂ now₂ (i + 1)
    used_one b same more state {line} e put short =
        let part : take 1 (drop i block) ≡ b ∷ [] = rw (drop-cons block i 0 more, same) in
        let said : report next text now (k.offset + i) (take 1 (drop i block)) ≡ line = rw part (report_one next text now (k.offset + i) b ∙ sym e) in
        used_more 1 (omega arith) (omega arith) (rw part state) (rw said put) (rw said short)
