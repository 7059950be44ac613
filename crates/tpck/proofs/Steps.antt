-- The receiver's step, by its cases: a law for each way that it goes. Assumes nothing.
use Rattle.std.proofs.Common.{◌≡◌, ℕ, true, false, sym, ap, ◌∙◌, ne_eqb}
use Rattle.tpck.specs.Frame.{sof, eof, esc}
use Rattle.tpck.specs.declared.event.Event.{Event}
use Rattle.tpck.specs.declared.receiver.Receiver.{Receiver}
use Rattle.tpck.specs.declared.receiver.Meaning.{Meaning}
use Rattle.tpck.specs.Receive.{State, view, store, receive, received_from, meaning_of, step_as, step, plain_data, pending_escape, start_of_frame, end_of_frame}

module _ (s : State) where
  pub step_as_lem : (b : ℕ) (m : Meaning) → meaning_of s.escaped b ≡ m → step s b ≡ step_as m s b
  unfolding step
  step_as_lem b m e = ap (λ (x : Meaning). step_as x s b) e

  pub step_escaped : s.escaped ≡ true → (b : ℕ) → step s b ≡ plain_data s b
  unfolding step
  step_escaped e b = rw e

  module _ (e : s.escaped ≡ false) where
    pub step_esc : (b : ℕ) → b ≡ esc → step s b ≡ pending_escape s
    unfolding step
    step_esc b h = rw (e, h)

    pub step_sof : (b : ℕ) → b ≡ sof → step s b ≡ start_of_frame s
    unfolding step
    step_sof b h = rw (e, h)

    pub step_eof : (b : ℕ) → b ≡ eof → step s b ≡ end_of_frame s
    unfolding step
    step_eof b h = rw (e, h)

    pub step_plain : (b : ℕ) → (b ≡ esc → ⊥) → (b ≡ sof → ⊥) → (b ≡ eof → ⊥) → step s b ≡ plain_data s b
    unfolding step
    step_plain b h i j = rw (e, ne_eqb b esc h, ne_eqb b sof i, ne_eqb b eof j)

-- what `receive` answers, of what a byte of this meaning does
pub received_by : (r : Receiver) (b : ℕ) (m : Meaning) → meaning_of r.escaped b ≡ m → {next : Receiver} {event : Event}
    → next ≡ store r (step_as m (view r) b).next → event ≡ (step_as m (view r) b).event → record { next = next; event = event } ≡ receive r b
received_by r b m e p q = (λ i. record { next = p i; event = q i }) ∙ ap (received_from r) (sym (step_as_lem (view r) b m e))
