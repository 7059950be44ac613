-- A turn goes by its checks, and by the table and the queue alone. Assumes nothing.
use mathlib.Core.Path.{◌≡◌, refl}
use mathlib.Core.Bool.{Bool, true, false}
use mathlib.Core.List.{List, [], ◌∷◌}
use Prim.Native.Nat.{ℕ, ◌≤◌}
use native.Mathlib.Omega.{arith}
use borrow.Author.Tests.{ltb-false}
use lib.Dec.{ltb}
use Rattle.std.specs.Prelude as std
use Rattle.std.specs.Prelude.{Option, Some, None, Ok, Err}
use Rattle.lists.proofs.Clash.{clash}
use Rattle.devices.specs.declared.field.Field.{Field}
use Rattle.devices.specs.Field.{same_field}
use Rattle.devices.specs.Table.{rows_of, accepts}
use Rattle.updates.specs.declared.line.Line.{Line}
use Rattle.updates.specs.declared.update.Update.{Update}
use Rattle.updates.specs.Update.{line_in}
use Rattle.updates.specs.Queue.{waiting}
use Rattle.gateway.specs.declared.answers.TurnAnswer.{TurnAnswer}
use Rattle.gateway.specs.declared.answers.TurnRefusal.{TurnRefusal}
use Rattle.gateway.specs.declared.gateway.Gateway.{Gateway}
use Rattle.gateway.specs.declared.turn.Turned.{Turned}
use Rattle.gateway.specs.State.{State, Result}
use Rattle.gateway.specs.View.{view, turn_view}
use Rattle.gateway.specs.Results.{Tried, turned, tried}
use Rattle.gateway.specs.Reply.{room}
use Rattle.gateway.specs.Turn.{try_failed, try_confirmed, try_if, try_value, try_heard, turn_head, turn_queue, turn_in, turn, check_head, check_queue, check_in, check_turn, turn_by}

-- a turn goes by its checks
module _ (g : State) (f : Field) (h : Option ℕ) where
  queue_checked : (q : List Update) → turn_queue g f h q ≡ turn_by g f h (check_queue q f)
  unfolding turn_queue turn_head check_queue
  queue_checked [] = refl
  queue_checked (u ∷ q) = go (same_field f u.field)
    where
      go : (b : Bool) → turn_head g (line_in u) f h b ≡ turn_by g f h (check_head u b)
      go true = refl
      go false = refl

  pub turn_checked : (n : ℕ) → turn g f h n ≡ turn_by g f h (check_turn g.queue f n)
  unfolding turn turn_in check_turn
  turn_checked n = go (ltb n room)
    where
      go : (b : Bool) → turn_in g f h b ≡ turn_by g f h (check_in g.queue f b)
      go true = refl
      go false = queue_checked g.queue

-- a turn that passes has room for a reply
module _ (q : List Update) (f : Field) where
  pub check_room : (n : ℕ) (l : Line) → check_turn q f n ≡ Ok l → room ≤ n
  unfolding check_turn
  check_room n l e = go (ltb n room) refl e
    where
      go : (b : Bool) → ltb n room ≡ b → check_in q f b ≡ Ok l → room ≤ n
      go true s p = clash cc
      go false s p = omega (arith, ltb-false n room s)

-- ---- a turn of the table and the queue, put into the gateway

abbrev pub joined : Gateway → Tried → Turned
joined g x = record { gateway = record { receivers = g.receivers; table = x.table; queue = x.queue; properties = g.properties }; answer = x.answer }

module _ (g : Gateway) (f : Field) where
  abbrev apart : State
  apart = turn_view g.table g.queue

  abbrev Same : Result TurnAnswer → Result TurnAnswer → Type 0
  Same x y = (joined g (tried g.table g.queue y) ≡ turned g x) × (y.reply ≡ x.reply)

  same_heard : (l : Line) (h : Option ℕ) → Same (try_heard (view g) l f h) (try_heard apart l f h)
  unfolding try_heard try_failed try_value try_if try_confirmed
  same_heard l None = (refl, refl)
  same_heard l (Some v) = go (accepts (rows_of g.table) f v)
    where
      go : (b : Bool) → Same (try_if (view g) l f v b) (try_if apart l f v b)
      go true = (refl, refl)
      go false = (refl, refl)

  same_checked : (h : Option ℕ) (c : std.Result Line TurnRefusal) → Same (turn_by (view g) f h c) (turn_by apart f h c)
  same_checked h (Err e) = (refl, refl)
  same_checked h (Ok l) = same_heard l h

  -- a turn reads and changes no other part of the gateway
  pub turn_joined : (h : Option ℕ) (n : ℕ) → Same (turn (view g) f h n) (turn apart f h n)
  turn_joined h n = rw (turn_checked (view g) f h n, turn_checked apart f h n) (same_checked h (check_turn (waiting g.queue) f n))
