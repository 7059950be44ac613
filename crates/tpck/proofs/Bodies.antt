-- Laws of a body: when it is full, what EOF does with it, and what its first N + 3 bytes are.
-- Assumes nothing.
use Rattle.std.proofs.Common.{◌≡◌, ℕ, suc, ◌+◌, ◌<◌, ◌≤◌, Bool, true, false, eqb, leb, List, [], ◌∷◌, ◌++◌, length, get_or, take, sym, refl, ap, ◌∙◌, arith, length-append, length-take-le, take_all, take-suc, eq-eqb, eqb-true, le-leb, leb-false, leb-true}
use mathlib.Core.Bool.{false≢true}
use borrow.Author.Tests.{eqb-false, lt-leb}
use lib.Dec.{eqb-suc-zero}
use lib.Seq.{take-append_seam, get_or-append_seam}
use Rattle.tpck.specs.declared.event.Drop.TheVariants.{Early}
use Rattle.tpck.specs.declared.event.Event.TheVariants.{Dropped, Frame}
use Rattle.tpck.specs.Frame.{checksum, header, packet, type_of, data_of}
use Rattle.tpck.specs.Receive.{full, is_full, summed, close}

-- a body that is not full has room in the array
pub full_room : (first len : ℕ) → first < 256 → is_full first len ≡ false → len < 258
full_room first len h e = go (eqb len 0) refl
  where
    go : (t : Bool) → eqb len 0 ≡ t → len < 258
    go true z = omega (arith, eqb-true)
    go false z = omega (arith, leb-false, rw z at e)

pub full_least : (first len : ℕ) → is_full first len ≡ true → first + 3 ≤ len
full_least first len e = go (eqb len 0) refl
  where
    go : (t : Bool) → eqb len 0 ≡ t → first + 3 ≤ len
    go true z = absurd (false≢true (rw z at e))
    go false z = omega (arith, leb-true, rw z at e)

module _ (n : ℕ) (rest : List ℕ) where
  pub full_cons : full (n ∷ rest) ≡ leb (n + 3) (length (n ∷ rest))
  full_cons = rw (eqb-suc-zero (length rest))

  pub not_full : length (n ∷ rest) < n + 3 → full (n ∷ rest) ≡ false
  not_full h = full_cons ∙ lt-leb (n + 3) (length (n ∷ rest)) h

  pub is_full_lem : n + 3 ≤ length (n ∷ rest) → full (n ∷ rest) ≡ true
  is_full_lem h = full_cons ∙ le-leb (n + 3) (length (n ∷ rest)) h

-- EOF, by the tests
module _ (l : List ℕ) where
  pub close_early : full l ≡ false → Dropped Early (length l) ≡ close l
  close_early h = rw h

-- a body that announces n data bytes and has them, and a byte after them
module _ (n ptype : ℕ) (rest : List ℕ) (h : n < length rest) where
  data_length : length (take n rest) ≡ n
  data_length = length-take-le n rest (omega arith)

  data_header : n ∷ ptype ∷ take n rest ≡ header ptype (take n rest)
  data_header = ap (λ (m : ℕ). m ∷ ptype ∷ take n rest) (sym data_length)

  -- Length, Type and the data; the byte after them; the two together
  header_is : take (n + 2) (n ∷ ptype ∷ rest) ≡ header ptype (take n rest)
  header_is = let e : n + 2 ≡ suc (suc n) = omega arith in rw e data_header

  checksum_is : get_or (n ∷ ptype ∷ rest) (n + 2) 0 ≡ get_or rest n 0
  checksum_is = let e : n + 2 ≡ suc (suc n) = omega arith in rw e

  pub front_is : take (n + 3) (n ∷ ptype ∷ rest) ≡ header ptype (take n rest) ++ get_or rest n 0 ∷ []
  front_is =
      let e : n + 3 ≡ suc (suc (suc n)) = omega arith in
      rw e (ap (λ (l : List ℕ). n ∷ ptype ∷ l) (take-suc rest n 0 h) ∙ ap (λ (l : List ℕ). l ++ get_or rest n 0 ∷ []) data_header)

  -- the test of the checksum, on these
  summed_is : summed (n ∷ ptype ∷ rest) ≡ eqb (get_or rest n 0) (checksum (header ptype (take n rest)))
  summed_is =
      ap (λ (c : ℕ). eqb c (checksum (take (n + 2) (n ∷ ptype ∷ rest)))) checksum_is
      ∙ ap (λ (l : List ℕ). eqb (get_or rest n 0) (checksum l)) header_is

  pub summed_right : summed (n ∷ ptype ∷ rest) ≡ true → get_or rest n 0 ≡ checksum (header ptype (take n rest))
  summed_right t = eqb-true _ _ (sym summed_is ∙ t)

  pub summed_wrong : summed (n ∷ ptype ∷ rest) ≡ false → get_or rest n 0 ≡ checksum (header ptype (take n rest)) → ⊥
  summed_wrong t = eqb-false _ _ (sym summed_is ∙ t)

-- with no byte after that one, this is the whole body
pub exact_body : (n ptype : ℕ) (rest : List ℕ) → length rest ≡ n + 1 → n ∷ ptype ∷ rest ≡ header ptype (take n rest) ++ get_or rest n 0 ∷ []
exact_body n ptype rest h = sym (take_all (n + 3) (n ∷ ptype ∷ rest) (omega arith)) ∙ front_is n ptype rest (omega arith)

-- a header and a byte after it: the body is full, and the byte is compared with the checksum
module _ (ptype : ℕ) (bytes : List ℕ) (c : ℕ) where
  ended_long : length bytes < length (bytes ++ c ∷ [])
  ended_long = omega (arith, length-append bytes (c ∷ []))

  pub ended_full : full (header ptype bytes ++ c ∷ []) ≡ true
  ended_full = is_full_lem (length bytes) (ptype ∷ bytes ++ c ∷ []) (omega (arith, length-append bytes (c ∷ [])))

  pub ended_length : length bytes + 3 ≡ length (header ptype bytes ++ c ∷ [])
  ended_length = omega (arith, length-append bytes (c ∷ []))

  pub ended_data : data_of (header ptype bytes ++ c ∷ []) ≡ bytes
  ended_data = take-append_seam bytes (c ∷ [])

  pub ended_summed : summed (header ptype bytes ++ c ∷ []) ≡ eqb c (checksum (header ptype bytes))
  ended_summed =
      summed_is (length bytes) ptype (bytes ++ c ∷ []) ended_long
      ∙ ap (λ (d : ℕ). eqb d (checksum (header ptype (take (length bytes) (bytes ++ c ∷ []))))) (get_or-append_seam bytes c [] 0)
      ∙ ap (λ (l : List ℕ). eqb c (checksum (header ptype l))) ended_data

-- EOF after a body that is complete
pub close_packet : (ptype : ℕ) (bytes : List ℕ) → close (packet ptype bytes) ≡ Frame ptype (length bytes)
close_packet ptype bytes =
    let c = checksum (header ptype bytes) in
    rw (ended_full ptype bytes c, ended_summed ptype bytes c ∙ eq-eqb c c refl)

-- a frame that EOF completes: the first N + 3 bytes of the body are its packet, whatever stands after them
pub closed_packet : (body : List ℕ) → full body ≡ true → summed body ≡ true
    → take (length (data_of body) + 3) body ≡ packet (type_of body) (data_of body)
closed_packet [] f t = absurd (false≢true f)
closed_packet (n ∷ []) f t = let k : n + 3 ≤ 1 = full_least n 1 f in let no : ⊥ = omega arith in absurd no
closed_packet (n ∷ ptype ∷ rest) f t =
    let k : n + 3 ≤ length (n ∷ ptype ∷ rest) = full_least n (length (n ∷ ptype ∷ rest)) f in
    let h : n < length rest = omega arith in
    ap (λ (m : ℕ). take (m + 3) (n ∷ ptype ∷ rest)) (data_length n ptype rest h)
    ∙ front_is n ptype rest h
    ∙ ap (λ (c : ℕ). header ptype (take n rest) ++ c ∷ []) (summed_right n ptype rest h t)
