-- A whole frame, read byte by byte: nothing happens before its last byte. Assumes nothing.
use mathlib.Core.Path.{◌≡◌, refl, ap, ◌∙◌}
use mathlib.Core.Bool.{Bool, true, false, cond, not, ◌&&◌}
use mathlib.Core.List.{List, [], ◌∷◌, ◌++◌}
use Prim.Native.Nat.{ℕ, zero, suc, ◌+◌, ◌-◌}
use native.Mathlib.Omega.{arith}
use lib.Dec.{eqb}
use lib.ListN.{length, get_or, take, drop, replicate}
use Rattle.tpck.specs.declared.event.Drop.TheVariants.{Restarted}
use Rattle.tpck.specs.declared.event.Event.{Event}
use Rattle.tpck.specs.declared.event.Event.TheVariants.{Nothing, Dropped, Frame}
use Rattle.tpck.specs.declared.receiver.Receiver.{Receiver}
use Rattle.tpck.specs.Frame as tpck
use Rattle.tpck.specs.Receive.{State, Step, view, receive}
use Rattle.tpck.specs.Line.{receiver_after, answers, opening, ReadBack}
use Rattle.tpck.proofs.Steps.{step_sof}
use Rattle.tpck.proofs.Theorems.{valid_read_back}
use Rattle.devices.specs.declared.table.Table.{Table}
use Rattle.transfer.specs.declared.draft.Draft.{Draft}
use Rattle.transfer.specs.Reading.{Stepped, reader, done, outside, frame, reading}
use Rattle.transfer.proofs.Frames.{heard_told}
use Rattle.transfer.proofs.Bytewise.{ending, byte_ends, byte_goes}
use Rattle.transfer.proofs.Opened.{inside_kept}

-- the place behind a list, from a place on
abbrev pub past : {A : Type 0} → List A → ℕ → ℕ
past [] i = i
past (x ∷ l) i = past l (suc i)

pub past_length : {A : Type 0} (l : List A) (i : ℕ) → past l i ≡ i + length l
past_length [] i = omega arith
past_length (x ∷ l) i = omega (arith, past_length l (suc i))

pub past_append : {A : Type 0} (k l : List A) (i : ℕ) → past (k ++ l) i ≡ past l (past k i)
past_append [] l i = refl
past_append (x ∷ k) l i = past_append k l (suc i)

-- hunting, none pending
pub record Rests (s : Receiver) : Type 0 where
  pub hunts : s.inside ≡ false
  pub plain : s.escaped ≡ false

module _ (f p n : ℕ) (d : Draft) (t : Table) (k : ℕ) (more : (s : Receiver) → done n (reader s d t k) ≡ false) where
  module _ (ptype m : ℕ) where
    not_nil : (q : ℕ) → ◌≡◌ {A = List Event} [] (replicate q Nothing ++ Frame ptype m ∷ []) → ⊥
    not_nil zero e = let z = ap length e in omega arith
    not_nil (suc q) e = let z = ap length e in omega arith

    -- to the end of an open frame
    inside_run : (bs : List ℕ) (s : Receiver) (q : ℕ) → s.inside ≡ true → answers s bs ≡ replicate q Nothing ++ Frame ptype m ∷ []
        → (y : Stepped) → frame (reader (receiver_after s bs) d t k) ptype (take m (drop 2 (receiver_after s bs).bytes)) ≡ y
        → (rest : List ℕ) (i : ℕ) → reading f p n (reader s d t k) (bs ++ rest) i ≡ ending f p n y rest (past bs i)
    unfolding answers receiver_after
    inside_run [] s q h e y g rest i = absurd (not_nil q e)
    inside_run (b ∷ []) s zero h e y g rest i =
        let ev : (receive s b).event ≡ Frame ptype m = ap (λ (l : List Event). get_or l 0 Nothing) e in
        let o : outside s b ≡ false = ap (λ (z : Bool). not z && not (eqb b tpck.sof)) h in
        let x = heard_told n (reader s d t k) b (receive s b) refl (more s) o (Frame ptype m) ev ∙ g in
        byte_ends f p n (reader s d t k) b rest i y x
    inside_run (b ∷ c ∷ bs) s zero h e y g rest i = absurd (let z = ap length e in omega arith)
    inside_run (b ∷ bs) s (suc q) h e y g rest i =
        let ev : (receive s b).event ≡ Nothing = ap (λ (l : List Event). get_or l 0 Nothing) e in
        let o : outside s b ≡ false = ap (λ (z : Bool). not z && not (eqb b tpck.sof)) h in
        let x = heard_told n (reader s d t k) b (receive s b) refl (more s) o Nothing ev in
        byte_goes f p n (reader s d t k) b (bs ++ rest) i (reader (receive s b).next d t k) x
        ∙ inside_run bs (receive s b).next q (inside_kept (view s) b h ev) (ap (λ (l : List Event). drop 1 l) e) y g rest (suc i)

  -- a whole frame, from SOF on, with or without needless escapes
  module _ (s : Receiver) (r : Rests s) (c tl : List ℕ) (v : tpck.Valid 6 c (tpck.sof ∷ tl)) where
    abbrev line : List ℕ
    line = tpck.sof ∷ tl

    abbrev pub behind : Receiver
    behind = receiver_after s line

    back : ReadBack s line 6 c
    back = valid_read_back s r.plain 6 c v

    pub behind_rests : Rests behind
    behind_rests = record { hunts = ap (λ (z : State). z.inside) back.hunts; plain = ap (λ (z : State). z.escaped) back.hunts }

    pub frame_run : (y : Stepped) → frame (reader behind d t k) 6 c ≡ y
        → (rest : List ℕ) (i : ℕ) → reading f p n (reader s d t k) (line ++ rest) i ≡ ending f p n y rest (past line i)
    unfolding answers receiver_after
    frame_run y g rest i =
        let e : answers s line ≡ opening (view s) ∷ replicate (length line - 2) Nothing ++ Frame 6 (length c) ∷ [] = back.told in
        let ev : (receive s tpck.sof).event ≡ Nothing = ap (λ (l : List Event). get_or l 0 Nothing) e ∙ ap (λ (z : Bool). cond z (Dropped Restarted (length (view s).body)) Nothing) r.hunts in
        let o : outside s tpck.sof ≡ false = ap (λ (z : Bool). not z && not (eqb tpck.sof tpck.sof)) r.hunts in
        let x = heard_told n (reader s d t k) tpck.sof (receive s tpck.sof) refl (more s) o Nothing ev in
        let h : (receive s tpck.sof).next.inside ≡ true = ap (λ (z : Step). z.next.inside) (step_sof (view s) r.plain tpck.sof refl) in
        let g' = ap (λ (l : List ℕ). frame (reader behind d t k) 6 l) back.data_read ∙ g in
        byte_goes f p n (reader s d t k) tpck.sof (tl ++ rest) i (reader (receive s tpck.sof).next d t k) x
        ∙ inside_run 6 (length c) tl (receive s tpck.sof).next (length line - 2) h (ap (λ (l : List Event). drop 1 l) e) y g' rest (suc i)
