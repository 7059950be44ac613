-- What the writer answers and writes, by its cases. Assumes nothing.
use mathlib.Core.Path.{◌≡◌, refl, sym, ap, ◌∙◌}
use mathlib.Core.Bool.{true, false, false≢true}
use mathlib.Core.List.{List, [], ◌∷◌}
use Prim.Native.Nat.{ℕ, ◌<◌, ◌≤◌}
use borrow.Author.Tests.{le-ltb, lt-ltb}
use Rattle.updates.specs.declared.update.Update.{Update}
use Rattle.std.specs.Option.{is_some}
use Rattle.updates.specs.Queue.{head_of}
use Rattle.gateway.specs.State.{State}
use Rattle.transfer.specs.declared.writer.HandRefusal.TheVariants.{Short, UpdatesWait}
use Rattle.transfer.specs.Hand.{refuse, line_at, hand_line, hand_queue, hand_in, hand}
use Rattle.transfer.specs.Statement.{HandAnswers}
use Rattle.transfer.proofs.Placing.{line_past}

module _ (g : State) (place n : ℕ) where
  pub hand_short : n < 32 → hand g place n ≡ refuse Short
  unfolding hand hand_in
  hand_short h = rw (lt-ltb n 32 h)

  module _ (h : 32 ≤ n) where
    by_queue : hand g place n ≡ hand_queue g place g.queue
    unfolding hand hand_in
    by_queue = rw (le-ltb n 32 h)

    pub hand_waits : (u : Update) (q : List Update) → g.queue ≡ u ∷ q → hand g place n ≡ refuse UpdatesWait
    unfolding hand_queue
    hand_waits u q e = by_queue ∙ ap (hand_queue g place) e

    pub hand_line_lem : g.queue ≡ [] → hand g place n ≡ hand_line (line_at g place)
    unfolding hand_queue
    hand_line_lem e = by_queue ∙ ap (hand_queue g place) e

    -- by the head of the queue
    pub head_waits : is_some (head_of g.queue) ≡ true → hand g place n ≡ refuse UpdatesWait
    head_waits k = go g.queue refl k
      where
        go : (q : List Update) → g.queue ≡ q → is_some (head_of q) ≡ true → hand g place n ≡ refuse UpdatesWait
        go [] e k = absurd (false≢true k)
        go (v ∷ q) e k = hand_waits v q e

    pub head_none : is_some (head_of g.queue) ≡ false → hand g place n ≡ hand_line (line_at g place)
    head_none k = go g.queue refl k
      where
        go : (q : List Update) → g.queue ≡ q → is_some (head_of q) ≡ false → hand g place n ≡ hand_line (line_at g place)
        go [] e k = hand_line_lem e
        go (v ∷ q) e k = absurd (false≢true (sym k))

  -- 1, then 23; past the last nothing
  pub hand_answers : HandAnswers g place n
  unfolding line_at
  hand_answers = record {
    short = hand_short;
    waits = hand_waits;
    written = hand_line_lem;
    past = λ h e far. hand_line_lem h e ∙ ap hand_line (line_past g.properties g.table place far);
  }
