-- Laws of byte stuffing, of a buffer that is filled from its front, and of a frame in the parts that the writer puts there.
-- Assumes nothing.
use Rattle.std.proofs.Common.{◌≡◌, ℕ, suc, ◌+◌, ◌*◌, ◌<◌, ◌≤◌, Bool, true, false, List, [], ◌∷◌, ◌++◌, length, get_or, take, drop, sym, refl, ap, ◌∙◌, true≢false, append_assoc, add-one, arith, length-append, take-suc}
use mir.Val.{bool_byte}
use lib.Seq.{split_at, length-sets}
use Rattle.lists.proofs.Filters.{cond_append}
use Rattle.lists.proofs.Stores.{sets_append}
use Rattle.tpck.specs.Frame.{sof, eof, esc, special, stuffed, enclosed}
use Rattle.tpck.specs.Write.{Wrote}

-- a byte that is not special is none of the three values
pub not_special : (value : ℕ) → special value ≡ true → (b : ℕ) → special b ≡ false → b ≡ value → ⊥
not_special value t b h e = true≢false (sym t ∙ sym (ap special e) ∙ h)

pub stuffed_special : (b : ℕ) (bs : List ℕ) → special b ≡ true → stuffed (b ∷ bs) ≡ esc ∷ b ∷ stuffed bs
unfolding stuffed
stuffed_special b bs h = rw h

pub stuffed_plain : (b : ℕ) (bs : List ℕ) → special b ≡ false → stuffed (b ∷ bs) ≡ b ∷ stuffed bs
unfolding stuffed
stuffed_plain b bs h = rw h

pub stuffed_nil : stuffed [] ≡ []
unfolding stuffed
stuffed_nil = refl

pub stuffed_append : (xs ys : List ℕ) → stuffed (xs ++ ys) ≡ stuffed xs ++ stuffed ys
unfolding stuffed
stuffed_append [] ys = refl
stuffed_append (x ∷ xs) ys =
    rw (stuffed_append xs ys) (sym (cond_append (special x) (esc ∷ x ∷ stuffed xs) (x ∷ stuffed xs) (stuffed ys)))

-- one byte more
pub stuffed_next : (s : List ℕ) (i : ℕ) → i < length s → stuffed (take (i + 1) s) ≡ stuffed (take i s) ++ stuffed (get_or s i 0 ∷ [])
stuffed_next s i h = rw (add-one, take-suc s i 0 h) (stuffed_append (take i s) (get_or s i 0 ∷ []))

-- a byte takes one or two on the line
pub width_le : (b : ℕ) → length (stuffed (b ∷ [])) ≤ 2
width_le b = go (special b) refl
  where
    go : (t : Bool) → special b ≡ t → length (stuffed (b ∷ [])) ≤ 2
    go true h = rw (stuffed_special b [] h, stuffed_nil) (omega arith)
    go false h = rw (stuffed_plain b [] h, stuffed_nil) (omega arith)

pub width_least : (b : ℕ) → 1 ≤ length (stuffed (b ∷ []))
width_least b = go (special b) refl
  where
    go : (t : Bool) → special b ≡ t → 1 ≤ length (stuffed (b ∷ []))
    go true h = rw (stuffed_special b [] h, stuffed_nil) (omega arith)
    go false h = rw (stuffed_plain b [] h, stuffed_nil) (omega arith)

-- the bytes passed take no more than all
pub stuffed_part : (s : List ℕ) (i : ℕ) → i < length s → length (stuffed (take i s)) + length (stuffed (get_or s i 0 ∷ [])) ≤ length (stuffed s)
stuffed_part s i h =
    let a = stuffed (take i s) in
    let b = stuffed (get_or s i 0 ∷ []) in
    let r = stuffed (drop (suc i) s) in
    let e : stuffed s ≡ (a ++ b) ++ r =
    ap stuffed (split_at s i 0 h) ∙ stuffed_append (take i s) (get_or s i 0 ∷ drop (suc i) s)
    ∙ ap (λ (t : List ℕ). a ++ t) (stuffed_append (get_or s i 0 ∷ []) (drop (suc i) s)) ∙ sym (append_assoc a b r) in
    omega (arith, ap length e, length-append (a ++ b) r, length-append a b)

pub width_special : (b : ℕ) → special b ≡ true → length (stuffed (b ∷ [])) ≡ 2
width_special b h = rw (stuffed_special b [] h, stuffed_nil)

pub width_plain : (b : ℕ) → special b ≡ false → length (stuffed (b ∷ [])) ≡ 1
width_plain b h = rw (stuffed_plain b [] h, stuffed_nil)

-- at most two bytes for each
pub stuffed_le : (s : List ℕ) → length (stuffed s) ≤ 2 * length s
stuffed_le [] = rw stuffed_nil (omega arith)
stuffed_le (x ∷ xs) =
    omega (arith, ap length (stuffed_append (x ∷ []) xs), length-append (stuffed (x ∷ [])) (stuffed xs), width_le x, stuffed_le xs)

-- the test of a byte, as a number, is that of its escapes
pub width_counted : (b : ℕ) (t : Bool) → t ≡ special b → (n : ℕ) → n ≡ bool_byte t → n + 1 ≡ length (stuffed (b ∷ []))
width_counted b true e n f = omega (arith, width_special b (sym e))
width_counted b false e n f = omega (arith, width_plain b (sym e))

-- ---- what is written, one after the other

module _ {before : List ℕ} {at : ℕ} {xs mid : List ℕ} {m : ℕ} (w : Wrote xs before at mid m) where
  pub wrote_length : length mid ≡ length before
  wrote_length = ap length w.holds ∙ length-sets before at xs

  pub wrote_more : {ys after : List ℕ} {to : ℕ} → Wrote ys mid m after to → Wrote (xs ++ ys) before at after to
  wrote_more {ys = ys} v = record {
    place = omega (arith, v.place, w.place, length-append xs ys);
    holds = v.holds ∙ rw (w.holds, w.place) (sets_append before at xs ys);
  }

  -- there is room for what comes next, where there is room for all
  pub wrote_room : (ys rest : List ℕ) {all : List ℕ} → all ≡ (xs ++ ys) ++ rest → at + length all ≤ length before → m + length ys ≤ length mid
  wrote_room ys rest e h = omega (arith, ap length e, length-append (xs ++ ys) rest, length-append xs ys, wrote_length, w.place)

pub wrote_none : (before : List ℕ) (at : ℕ) → Wrote [] before at before at
wrote_none before at = record { place = omega arith; holds = refl }

-- a byte, with an escape before it or not
module _ (b : ℕ) {before : List ℕ} {at : ℕ} {after : List ℕ} {to : ℕ} where
  pub wrote_special : special b ≡ true → {mid : List ℕ} {m : ℕ} → Wrote (esc ∷ []) before at mid m → Wrote (b ∷ []) mid m after to
      → Wrote (stuffed (b ∷ [])) before at after to
  wrote_special h w v = rw (stuffed_special b [] h, stuffed_nil) (wrote_more w v)

  pub wrote_plain : special b ≡ false → Wrote (b ∷ []) before at after to → Wrote (stuffed (b ∷ [])) before at after to
  wrote_plain h v = rw (stuffed_plain b [] h, stuffed_nil) v

-- a frame, in the parts that the code writes
module _ (len ptype : ℕ) (s : List ℕ) (sum : ℕ) where
  abbrev pub p0 : List ℕ
  p0 = sof ∷ []

  abbrev pub p1 : List ℕ
  p1 = p0 ++ stuffed (len ∷ [])

  abbrev pub p2 : List ℕ
  p2 = p1 ++ stuffed (ptype ∷ [])

  abbrev pub p3 : List ℕ
  p3 = p2 ++ stuffed s

  abbrev pub p4 : List ℕ
  p4 = p3 ++ stuffed (sum ∷ [])

  abbrev pub whole : List ℕ
  whole = enclosed (len ∷ ptype ∷ s ++ sum ∷ [])

  pub in_parts : whole ≡ p4 ++ eof ∷ []
  unfolding enclosed
  in_parts =
      ap (λ (t : List ℕ). sof ∷ t ++ eof ∷ [])
      (stuffed_append (len ∷ ptype ∷ s) (sum ∷ [])
      ∙ ap (λ (t : List ℕ). t ++ stuffed (sum ∷ []))
      (stuffed_append (len ∷ ptype ∷ []) s ∙ ap (λ (t : List ℕ). t ++ stuffed s) (stuffed_append (len ∷ []) (ptype ∷ []))))

  pub rest1 : whole ≡ p1 ++ (stuffed (ptype ∷ []) ++ (stuffed s ++ (stuffed (sum ∷ []) ++ eof ∷ [])))
  rest1 = in_parts ∙ simp append_assoc

  pub rest2 : whole ≡ p2 ++ (stuffed s ++ (stuffed (sum ∷ []) ++ eof ∷ []))
  rest2 = in_parts ∙ simp append_assoc

  pub rest3 : whole ≡ p3 ++ (stuffed (sum ∷ []) ++ eof ∷ [])
  rest3 = in_parts ∙ simp append_assoc

  pub whole_length : length whole ≡ length (stuffed (len ∷ [])) + length (stuffed (ptype ∷ [])) + length (stuffed s) + length (stuffed (sum ∷ [])) + 2
  whole_length = ap length in_parts ∙ simp length-append (omega arith)
