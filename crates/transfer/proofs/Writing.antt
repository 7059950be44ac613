-- What the writer writes: nothing, or a frame that fits a buffer of 32 bytes. Assumes nothing.
use mathlib.Core.Path.{◌≡◌, refl, sym, subst}
use mathlib.Core.Bool.{Bool, true, false}
use mathlib.Core.List.{List, [], ◌∷◌}
use Prim.Native.Nat.{ℕ, ◌+◌, ◌*◌}
use lib.Dec.{ltb}
use lib.ListN.{length, get_or}
use borrow.Author.Tests.{ltb-true, ltb-false}
use Rattle.updates.specs.declared.update.Update.{Update}
use Rattle.gateway.specs.State.{State}
use Rattle.gateway.specs.Reply.{room}
use Rattle.gateway.proofs.Replies.{fits}
use Rattle.std.specs.Prelude.{Ok}
use Rattle.transfer.specs.declared.writer.HandRefusal.TheVariants.{Short, UpdatesWait}
use Rattle.transfer.specs.Contents.{contents}
use Rattle.transfer.specs.Hand.{line_at, hand_queue, hand_in, hand}
use Rattle.transfer.specs.Writes.{HandWrites}
use Rattle.transfer.specs.Writes.HandWrites.{unwritten, past, written}
use Rattle.transfer.proofs.Placing.{line_within, line_past, content_short}

module _ (g : State) (place : ℕ) where
  abbrev Line : List ℕ → Type 0
  Line l = HandWrites (Ok (length l)) l

  line_writes : Line (line_at g place)
  unfolding line_at
  line_writes = go (ltb place (5 + 26 * length g.table)) refl
    where
      go : (t : Bool) → ltb place (5 + 26 * length g.table) ≡ t → Line (line_at g place)
      go true e =
          let h = ltb-true place (5 + 26 * length g.table) e in
          let content = get_or (contents g.properties g.table) place [] in
          subst Line (sym (line_within g.properties g.table place h)) (written content (fits content (content_short g.properties g.table place h)))
      go false e =
          let h = ltb-false place (5 + 26 * length g.table) e in
          subst Line (sym (line_past g.properties g.table place h)) past

  queue_writes : (q : List Update) → HandWrites (hand_queue g place q).answer (hand_queue g place q).reply
  unfolding hand_queue
  queue_writes [] = line_writes
  queue_writes (u ∷ q) = unwritten UpdatesWait

  room_writes : (short : Bool) → HandWrites (hand_in g place short).answer (hand_in g place short).reply
  unfolding hand_in
  room_writes true = unwritten Short
  room_writes false = queue_writes g.queue

  pub hand_writes : (n : ℕ) → HandWrites (hand g place n).answer (hand g place n).reply
  unfolding hand
  hand_writes n = room_writes (ltb n room)
