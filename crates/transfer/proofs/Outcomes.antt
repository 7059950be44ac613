-- A step goes on or is refused, and a hand-over is accepted or refused: which, and why, is read off the equation. Assumes nothing.
use mathlib.Core.Path.{◌≡◌, ap}
use Prim.Native.Nat.{ℕ}
use Rattle.std.specs.Prelude.{Ok, Err}
use Rattle.lists.proofs.Clash.{clash}
use Rattle.transfer.specs.declared.reader.Reader.{Reader}
use Rattle.transfer.specs.declared.reader.ReadRefusal.{ReadRefusal}
use Rattle.transfer.specs.declared.reader.Refused.{Refused}
use Rattle.transfer.specs.Reading.{Stepped, ReadAnswer, refused_at}

pub same_reader : (r s : Reader) → ◌≡◌ {A = Stepped} (Ok r) (Ok s) → r ≡ s
same_reader r s h = cc

pub same_refusal : (d e : ReadRefusal) → ◌≡◌ {A = Stepped} (Err d) (Err e) → d ≡ e
same_refusal d e h = cc

pub not_taken : (e : ReadRefusal) (r : Reader) → ◌≡◌ {A = Stepped} (Err e) (Ok r) → ⊥
not_taken e r h = clash cc

pub not_accepted : (e : ReadRefusal) (i : ℕ) → ◌≡◌ {A = ReadAnswer} (refused_at e i) (Ok tt) → ⊥
not_accepted e i h = clash cc

pub same_refused : (d e : ReadRefusal) (i k : ℕ) → refused_at d i ≡ refused_at e k → (d ≡ e) × (i ≡ k)
same_refused d e i k h =
    let both : ◌≡◌ {A = Refused} (record { why = d; at = i }) (record { why = e; at = k }) = cc in
    (ap (λ (x : Refused). x.why) both, ap (λ (x : Refused). x.at) both)
