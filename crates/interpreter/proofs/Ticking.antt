-- Ticks: one more, and those of a gateway in which no update waits, which change and list nothing. Assumes nothing.
use Prim.Native.Nat.{ℕ, zero, suc, ◌+◌, ◌-◌, ◌≤◌}
use mathlib.Core.Path.{◌≡◌, refl, sym, ◌∙◌, ap}
use mathlib.Core.List.{List, [], append-nil}
use native.Mathlib.Numerals.{add-one}
use native.Mathlib.Omega.{arith}
use lib.ListN.{take}
use Rattle.updates.specs.declared.update.Update.{Update}
use Rattle.updates.specs.Queue.{waiting, refill}
use Rattle.updates.specs.Tick.{keeping, leaving, listed}
use Rattle.updates.proofs.Slots.{refill_none}
use Rattle.gateway.specs.declared.gateway.Gateway.{Gateway}
use Rattle.gateway.specs.declared.gateway.Ticked.{Ticked}
use Rattle.gateway.specs.Calls.{tick}
use Rattle.gateway.specs.Results.{ticking}
use Rattle.gateway.specs.View.{view}
use Rattle.transcript.specs.Answers.{tick_answer_text, list_of}
use Rattle.text.specs.declared.place.Text.{Text}
use Rattle.text.specs.Place.{Puts}
use Rattle.text.proofs.Places.{puts_nothing, puts_same, puts_then}
use Rattle.interpreter.specs.Done.{Does}
use Rattle.interpreter.specs.Ticks.{ticked, tick_said, after_ticks, ticks_said, ticks_done}

-- no update waits
module _ (g : Gateway) (none : g.queue.count ≡ 0) where
  none_waits : waiting g.queue ≡ []
  unfolding waiting
  none_waits = ap (λ (n : ℕ). take n g.queue.slots) none

  idle_queue : refill g.queue (keeping (waiting g.queue)) ≡ g.queue
  unfolding keeping
  idle_queue =
      let emptied : record { count = 0; slots = g.queue.slots } ≡ g.queue = λ i. record { count = sym none i; slots = g.queue.slots } in
      ap (λ (l : List Update). refill g.queue (keeping l)) none_waits ∙ sym (refill_none g.queue) ∙ emptied

  idle_ticked : ticked g ≡ g
  unfolding tick
  idle_ticked = λ i. record { receivers = g.receivers; table = g.table; queue = idle_queue i; properties = g.properties }

  idle_said : (place : ℕ) → tick_said place g ≡ []
  unfolding tick leaving listed waiting
  idle_said place = rw none

-- once none waits, all further ticks leave the gateway as it is, and nothing is printed of them
module _ (g : Gateway) (i : ℕ) (none : (after_ticks i g).queue.count ≡ 0) where
  idle_from : (k : ℕ) → (after_ticks (k + i) g ≡ after_ticks i g) × (ticks_said (k + i) g ≡ ticks_said i g)
  unfolding after_ticks ticks_said
  idle_from zero = let z : 0 + i ≡ i = omega arith in rw z (refl, refl)
  idle_from (suc k) = go (idle_from k)
    where
      go : (after_ticks (k + i) g ≡ after_ticks i g) × (ticks_said (k + i) g ≡ ticks_said i g)
          → (after_ticks (suc k + i) g ≡ after_ticks i g) × (ticks_said (suc k + i) g ≡ ticks_said i g)
      go h =
          let s : suc k + i ≡ suc (k + i) = omega arith in (
            rw (s, h.0) (idle_ticked (after_ticks i g) none),
            rw (s, h.0, idle_said (after_ticks i g) none (suc (k + i)), h.1) (append-nil (ticks_said i g)),
          )

  pub ticks_idle : (n : ℕ) → i ≤ n → (after_ticks i g ≡ after_ticks n g) × (ticks_said i g ≡ ticks_said n g)
  ticks_idle n h =
      let e : (n - i) + i ≡ n = omega arith in
      let f = rw e at (idle_from (n - i)) in
      (sym f.0, sym f.1)

-- the ticks that are left out
pub ticks_rest : (g : Gateway) (i n : ℕ) {h : Gateway} {begun text : Text} → Does (ticks_done i g) h begun text → h.queue.count ≡ 0 → i ≤ n
    → Does (ticks_done n g) h begun text
unfolding ticks_done
ticks_rest g i n so_far none few =
    let idle = ticks_idle g i (rw so_far.0 at none) n few in
    (so_far.0 ∙ idle.0, puts_same so_far.1 idle.1)

module _ (g : Gateway) (begun : Text) where
  pub ticks_none : Does (ticks_done 0 g) g begun begun
  unfolding ticks_done after_ticks ticks_said
  ticks_none = (refl, puts_nothing begun)

  -- one tick more
  pub ticks_more : (i : ℕ) {h : Gateway} {before after : Text} → Does (ticks_done i g) h begun before → {x : Ticked} → x ≡ ticking h (tick (view h))
      → Puts (tick_answer_text (i + 1) (list_of x.fields)) before after → Does (ticks_done (i + 1) g) x.gateway begun after
  unfolding ticks_done after_ticks ticks_said
  ticks_more i so_far e said =
      (rw (add-one, e, so_far.0), puts_same (puts_then so_far.1 said) (rw (add-one, e, so_far.0)))
