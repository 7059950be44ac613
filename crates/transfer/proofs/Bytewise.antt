-- Reading along the bytes, by what the next one came to. Assumes nothing.
use mathlib.Core.Path.{◌≡◌, sym, ap, ◌∙◌}
use mathlib.Core.Bool.{true, false}
use mathlib.Core.List.{List, ◌∷◌}
use Prim.Native.Nat.{ℕ, suc, ◌+◌, ◌-◌, ◌<◌, ◌≤◌}
use native.Mathlib.Numerals.{add-one}
use native.Mathlib.Omega.{arith}
use lib.ListN.{length, get_or, drop}
use borrow.Author.Tests.{le-ltb}
use lib.Seq.{drop-cons, drop-length}
use Rattle.transfer.specs.declared.reader.ReadRefusal.{ReadRefusal}
use Rattle.transfer.specs.declared.reader.ReadRefusal.TheVariants.{Length}
use Rattle.transfer.specs.declared.reader.Handover.{Handover}
use Rattle.transfer.specs.declared.reader.Reader.{Reader}
use Rattle.std.specs.Prelude.{Ok, Err}
use Rattle.transfer.specs.Reading.{Stepped, start, byte, done, accepted, refused, ended, unless_refused, reading, read}

module _ (f p n : ℕ) where
  pub read_all : (bytes : List ℕ) → n ≤ 32 → read f p n bytes ≡ reading f p n (start f p) bytes 0
  unfolding read
  read_all bytes h = rw (le-ltb 32 n h)

  -- the place after the byte of a step: the bytes after it, or the refusal at it
  abbrev pub ending : Stepped → List ℕ → ℕ → Handover
  ending x rest i = unless_refused f p (i - 1) x (λ s. reading f p n s rest i)

  -- one byte
  pub byte_ends : (r : Reader) (b : ℕ) (bs : List ℕ) (i : ℕ) (x : Stepped) → byte n r b ≡ x → reading f p n r (b ∷ bs) i ≡ ending x bs (suc i)
  unfolding reading
  byte_ends r b bs i x e =
      let m : i ≡ suc i - 1 = omega arith in
      ap (λ (y : Stepped). unless_refused f p i y (λ s. reading f p n s bs (suc i))) e
      ∙ ap (λ (k : ℕ). unless_refused f p k x (λ s. reading f p n s bs (suc i))) m

  pub byte_goes : (r : Reader) (b : ℕ) (bs : List ℕ) (i : ℕ) (s : Reader) → byte n r b ≡ Ok s
      → reading f p n r (b ∷ bs) i ≡ reading f p n s bs (suc i)
  unfolding reading
  byte_goes r b bs i s e = ap (λ (y : Stepped). unless_refused f p i y (λ s. reading f p n s bs (suc i))) e

  pub byte_refused : (r : Reader) (b : ℕ) (bs : List ℕ) (i : ℕ) (why : ReadRefusal) → byte n r b ≡ Err why
      → reading f p n r (b ∷ bs) i ≡ refused f p why i
  unfolding reading
  byte_refused r b bs i why e = ap (λ (y : Stepped). unless_refused f p i y (λ s. reading f p n s bs (suc i))) e

  -- the byte at a place of all
  module _ (r : Reader) (bytes : List ℕ) (i : ℕ) (h : i < length bytes) where
    here : reading f p n r (drop i bytes) i ≡ reading f p n r (get_or bytes i 0 ∷ drop (suc i) bytes) i
    here = ap (λ (l : List ℕ). reading f p n r l i) (drop-cons bytes i 0 h)

    pub place_goes : (s : Reader) → byte n r (get_or bytes i 0) ≡ Ok s → reading f p n r (drop i bytes) i ≡ reading f p n s (drop (i + 1) bytes) (i + 1)
    place_goes s e =
        here ∙ byte_goes r (get_or bytes i 0) (drop (suc i) bytes) i s e
        ∙ ap (λ (k : ℕ). reading f p n s (drop k bytes) k) (sym (add-one i))

    pub place_refused : (why : ReadRefusal) → byte n r (get_or bytes i 0) ≡ Err why → reading f p n r (drop i bytes) i ≡ refused f p why i
    place_refused why e = here ∙ byte_refused r (get_or bytes i 0) (drop (suc i) bytes) i why e

  -- past the last byte
  module _ (r : Reader) (bytes : List ℕ) (i : ℕ) (h : i ≡ length bytes) where
    at_end : reading f p n r (drop i bytes) i ≡ ended f p n r (length bytes)
    unfolding reading
    at_end = ap (λ (k : ℕ). reading f p n r (drop k bytes) k) h ∙ ap (λ (l : List ℕ). reading f p n r l (length bytes)) (drop-length bytes)

    pub end_done : done n r ≡ true → reading f p n r (drop i bytes) i ≡ accepted r
    unfolding ended
    end_done d = at_end ∙ rw d

    pub end_early : done n r ≡ false → reading f p n r (drop i bytes) i ≡ refused f p Length (length bytes)
    unfolding ended
    end_early d = at_end ∙ rw d
