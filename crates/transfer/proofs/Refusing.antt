-- A count above 32, and what is left of a hand-over that is refused: a fresh gateway. Assumes nothing.
use mathlib.Core.Path.{◌≡◌, sym, ap}
use mathlib.Core.Bool.{Bool, true, false, cond}
use mathlib.Core.List.{List, [], ◌∷◌}
use Prim.Native.Nat.{ℕ, suc, ◌+◌, ◌≤◌}
use native.Mathlib.Omega.{arith}
use lib.Dec.{ltb}
use lib.ListN.{length}
use borrow.Author.Tests.{lt-ltb}
use Rattle.devices.specs.declared.table.RowRefusal.TheVariants.{TableFull}
use Rattle.devices.specs.Table.{rows_of, fresh_table}
use Rattle.gateway.specs.declared.gateway.Gateway.{Gateway}
use Rattle.gateway.specs.Results as gateway
use Rattle.transfer.specs.declared.reader.ReadRefusal.{ReadRefusal}
use Rattle.transfer.specs.declared.reader.ReadRefusal.TheVariants.{Row, Length}
use Rattle.transfer.specs.declared.reader.Handover.{Handover}
use Rattle.transfer.specs.declared.reader.Reader.{Reader}
use Rattle.std.specs.Prelude.{Ok, Err}
use Rattle.transfer.proofs.Outcomes.{same_refused, not_accepted}
use Rattle.transfer.specs.Reading.{Stepped, refused_at, start, done, byte, accepted, refused, ended, unless_refused, reading, read}
use Rattle.transfer.specs.Statement.{TooMany, Refuses}

-- 21 before any byte is read
pub too_many : (f p n : ℕ) → TooMany f p n
unfolding read
too_many f p n = record { result = λ h bytes. rw (lt-ltb 32 n h) }

-- a hand-over that is refused
module _ (f p n : ℕ) where
  record Left (x : Handover) (e : ReadRefusal) (at i k : ℕ) : Type 0 where
    is : x ≡ refused f p e at
    low : i ≤ at
    high : at ≤ i + k

  left : (e d : ReadRefusal) (at i k : ℕ) → (refused f p d i).answer ≡ refused_at e at → Left (refused f p d i) e at i k
  unfolding refused
  left e d at i k a =
      let same = same_refused d e i at a in
      record { is = λ j. refused f p (same.0 j) (same.1 j); low = omega (arith, same.1); high = omega (arith, same.1) }

  later : (x : Handover) (e : ReadRefusal) (at i k : ℕ) → Left x e at (suc i) k → Left x e at i (suc k)
  later x e at i k h =
      let a = h.low in
      let b = h.high in
      record { is = h.is; low = omega arith; high = omega arith }

  reading_refused : (bs : List ℕ) (r : Reader) (i : ℕ) (e : ReadRefusal) (at : ℕ) → (reading f p n r bs i).answer ≡ refused_at e at → Left (reading f p n r bs i) e at i (length bs)
  unfolding reading ended accepted
  reading_refused [] r i e at a = go (done n r) a
    where
      go : (d : Bool) → (cond d (accepted r) (refused f p Length i)).answer ≡ refused_at e at → Left (cond d (accepted r) (refused f p Length i)) e at i 0
      go true a = absurd (not_accepted e at (sym a))
      go false a = left e Length at i 0 a
  reading_refused (b ∷ bs) r i e at a = go (byte n r b) a (λ s. reading_refused bs s (suc i) e at)
    where
      go : (t : Stepped) → (unless_refused f p i t (λ s. reading f p n s bs (suc i))).answer ≡ refused_at e at
          → ((s : Reader) → (reading f p n s bs (suc i)).answer ≡ refused_at e at → Left (reading f p n s bs (suc i)) e at (suc i) (length bs))
          → Left (unless_refused f p i t (λ s. reading f p n s bs (suc i))) e at i (suc (length bs))
      go (Ok s) a rest = later (reading f p n s bs (suc i)) e at i (length bs) (rest s a)
      go (Err d) a rest = left e d at i (suc (length bs)) a

  read_refused : (bytes : List ℕ) (e : ReadRefusal) (at : ℕ) → (read f p n bytes).answer ≡ refused_at e at → Left (read f p n bytes) e at 0 (length bytes)
  unfolding read
  read_refused bytes e at a = go (ltb 32 n) a
    where
      go : (t : Bool) → (cond t (refused f p (Row TableFull) 0) (reading f p n (start f p) bytes 0)).answer ≡ refused_at e at
          → Left (cond t (refused f p (Row TableFull) 0) (reading f p n (start f p) bytes 0)) e at 0 (length bytes)
      go true a = left e (Row TableFull) at 0 (length bytes) a
      go false a = reading_refused bytes (start f p) 0 e at a

  -- fresh as before, its table empty, with the numbers given
  pub refused_fresh : (bytes : List ℕ) (e : ReadRefusal) (at : ℕ) → (read f p n bytes).answer ≡ refused_at e at → Refuses f p n bytes e at
  unfolding refused gateway.fresh fresh_table rows_of
  refused_fresh bytes e at a =
      let h = read_refused bytes e at a in
      let g = ap (λ (x : Handover). x.gateway) h.is in
      record { result = g; empty = ap (λ (x : Gateway). rows_of x.table) g; place = omega (arith, h.high) }
