-- Bytes that carry rows are refused with any other count: 25 where they end early, and where they run on. Assumes nothing.
use mathlib.Core.Path.{◌≡◌, refl, sym, ap, ◌∙◌, subst}
use mathlib.Core.List.{List, [], ◌∷◌, ◌++◌, append_assoc, append-nil}
use Prim.Native.Nat.{ℕ, ◌<◌, ◌≤◌}
use native.Mathlib.Omega.{arith}
use lib.ListN.{length, take, drop, length-drop, take-append-drop}
use lib.Seq.{length-take-le}
use borrow.Author.Tests.{eq-eqb, ne_eqb}
use Rattle.lists.specs.Filter.{All}
use Rattle.tpck.specs.declared.receiver.Receiver.{Receiver}
use Rattle.tpck.specs.Frame.{sof, valid}
use Rattle.devices.specs.declared.row.Row.{Row}
use Rattle.devices.specs.Table.{rows_of, refill_rows, fresh_table}
use Rattle.devices.proofs.Rows.{rows_refill}
use Rattle.trpc.specs.declared.properties.Properties.{Properties}
use Rattle.transfer.specs.declared.draft.Draft.{Draft}
use Rattle.transfer.specs.declared.reader.ReadRefusal.TheVariants.{Length}
use Rattle.transfer.specs.Contents.{draft, value_contents, row_contents, rows_contents, contents}
use Rattle.transfer.specs.Carry.{fresh_draft}
use Rattle.transfer.specs.Reading.{reader, start, done, byte, ended, refused, reading, read}
use Rattle.transfer.specs.Ready.{PropertiesFit, RowFits}
use Rattle.transfer.specs.Statement.{Framed, none, more, Carries, Addable, WrongCount}
use Rattle.transfer.proofs.Bytewise.{read_all, byte_refused}
use Rattle.lists.proofs.Filters.{all_front}
use Rattle.transfer.proofs.Passing.{past, past_length}
use Rattle.transfer.proofs.Placing.{rows_length}
use Rattle.transfer.proofs.Carried.{parts, last_of, reach}

-- a list of rows in two parts
rows_append : (g : Properties) (k m : List Row) → rows_contents g (k ++ m) ≡ rows_contents g k ++ rows_contents g m
unfolding rows_contents
rows_append g [] m = refl
rows_append g (r ∷ k) m =
    ap (λ (z : List (List ℕ)). row_contents g r ++ z) (rows_append g k m) ∙ sym (append_assoc (row_contents g r) (rows_contents g k) (rows_contents g m))

contents_append : (g : Properties) (k m : List Row) → contents g (k ++ m) ≡ contents g k ++ rows_contents g m
unfolding contents
contents_append g k m =
    ap (λ (z : List (List ℕ)). value_contents g ++ z) (rows_append g k m) ∙ sym (append_assoc (value_contents g) (rows_contents g k) (rows_contents g m))

addable_front : (j k m : List Row) → Addable j (k ++ m) → Addable j k
addable_front j [] m a = tt
addable_front j (r ∷ k) m a = (a.0, addable_front (j ++ r ∷ []) k m a.1)

-- frames start with SOF
starts : (cs : List (List ℕ)) (bs : List ℕ) → 0 < length cs → Framed cs bs → bs ≡ sof ∷ drop 1 bs
starts cs bs h none = let no : ⊥ = omega arith in absurd no
starts cs bs h (more (valid w) fr) = refl

-- where the rows are fewer than the count
early_end : (f p n : ℕ) (d : Draft) (l : List Row) → length l < n → (s : Receiver) (i : ℕ)
    → reading f p n (reader s d (refill_rows fresh_table l) 5) [] i ≡ refused f p Length i
unfolding reading ended done
early_end f p n d l h s i =
    let e : length (rows_of (refill_rows fresh_table l)) ≡ length l = ap length (rows_refill fresh_table l) in
    rw (ne_eqb (length (rows_of (refill_rows fresh_table l))) n (λ q. omega arith))

-- where they are as many, and a byte comes
one_too_many : (f p n : ℕ) (d : Draft) (l : List Row) → length l ≡ n → (s : Receiver) (b : ℕ) (bs : List ℕ) (i : ℕ)
    → reading f p n (reader s d (refill_rows fresh_table l) 5) (b ∷ bs) i ≡ refused f p Length i
unfolding byte done
one_too_many f p n d l h s b bs i =
    let r = reader s d (refill_rows fresh_table l) 5 in
    byte_refused f p n r b bs i Length (rw (eq-eqb (length (rows_of (refill_rows fresh_table l))) n (ap length (rows_refill fresh_table l) ∙ h)))

module _ (f p n : ℕ) (few : n ≤ 32) (g : Properties) (fit : PropertiesFit g) (l : List Row) (fits : All RowFits l) (a : Addable [] l) (bytes : List ℕ) (fr : Carries bytes g l) where
  early : length l < n → read f p n bytes ≡ refused f p Length (length bytes)
  early h =
      let all = reach f p n g fit l fits a bytes (omega arith) fr in
      let m : past bytes 0 ≡ length bytes = omega (arith, past_length bytes 0) in
      read_all f p n bytes few
      ∙ ap (λ (z : List ℕ). reading f p n (start f p) z 0) (sym (append-nil bytes))
      ∙ all.goes [] 0
      ∙ early_end f p n (draft g (last_of f p n g fit (fresh_draft f p).row l)) l h all.to (past bytes 0)
      ∙ ap (refused f p Length) m

  runs_on : n < length l → (at : ℕ) × (read f p n bytes ≡ refused f p Length at)
  runs_on h =
      let k = take n l in
      let m = drop n l in
      let both : k ++ m ≡ l = take-append-drop n l in
      let size : length k ≡ n = length-take-le n l (omega arith) in
      let left : 0 < length (rows_contents g m) = omega (arith, rows_length g m, length-drop n l) in
      let two = parts (contents g k) (rows_contents g m) bytes (subst (λ (z : List (List ℕ)). Framed z bytes) (ap (contents g) (sym both) ∙ contents_append g k m) fr) in
      let all = reach f p n g fit k (all_front RowFits k m (subst (All RowFits) (sym both) fits)) (addable_front [] k m (subst (Addable []) (sym both) a)) two.front (omega arith) two.frames in
      let i = past two.front 0 in (
        i,
        read_all f p n bytes few
            ∙ ap (λ (z : List ℕ). reading f p n (start f p) z 0) two.bytes_are
            ∙ all.goes two.back 0
            ∙ ap (λ (z : List ℕ). reading f p n (reader all.to (draft g (last_of f p n g fit (fresh_draft f p).row k)) (refill_rows fresh_table k) 5) z i) (starts (rows_contents g m) two.back left two.others)
            ∙ one_too_many f p n (draft g (last_of f p n g fit (fresh_draft f p).row k)) k size all.to sof (drop 1 two.back) i,
      )

  -- any other count is 25
  pub wrong_count : WrongCount f p n l bytes
  wrong_count = record { early = early; runs_on = runs_on }
