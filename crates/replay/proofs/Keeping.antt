-- No more bytes are kept for a long call than the store has room for, so a line leaves its length. Assumes nothing.
use Rattle.std.proofs.Common.{◌≡◌, ℕ, ◌≤◌, Bool, true, false, ◌&&◌, leb, cond, List, [], ◌++◌, length, take, drop, refl, ap, ◌∙◌, arith, length-append, length-drop, leb-true}
use Rattle.std.specs.Prelude.{Option, Some, None, Result, is_ok}
use Rattle.lists.specs.Overlay.{overlay}
use Rattle.lists.proofs.Overlays.{overlay_take}
use Rattle.text.specs.declared.place.Text.{Text}
use Rattle.gateway.specs.declared.gateway.Gateway.{Gateway}
use Rattle.script.specs.Place.{Place}
use Rattle.script.specs.declared.names.Call.{Call}
use Rattle.script.specs.declared.names.Call.TheVariants as call
use Rattle.script.specs.Names.{read_call}
use Rattle.script.specs.Reading.{read_number, read_bytes}
use Rattle.script.specs.Arguments.{read_line}
use Rattle.interpreter.specs.declared.keeping.Kept.{Kept}
use Rattle.interpreter.specs.declared.result.BadLine.{BadLine}
use Rattle.interpreter.specs.Limits.{longest, most_area}
use Rattle.interpreter.specs.Done.{Ran, kept_after, Runs}
use Rattle.interpreter.specs.Keeping.{listed, gathered_if, gathering, more_call, block_call, handover_call}
use Rattle.interpreter.specs.Line.{call_done, run_line}

module _ (g : Gateway) (most : ℕ) (kept : List ℕ) (few : length kept ≤ most) (l : List ℕ) where
  gathering_within : (c : Place) → length (gathering most kept l c).bytes ≤ most
  unfolding gathering
  gathering_within c = go (is_ok (read_bytes longest l c)) (leb (length (kept ++ listed l c)) most) refl
    where
      go : (s t : Bool) → leb (length (kept ++ listed l c)) most ≡ t → length (gathered_if (s && t) kept (listed l c)).bytes ≤ most
      go true true e = leb-true (length (kept ++ listed l c)) most e
      go true false e = few
      go false t e = few

  call_within : (k : Option Call) (c : Place) → length (call_done k g most kept l c).gathered ≤ most
  unfolding more_call block_call handover_call
  call_within (Some call.Nothing) c = few
  call_within (Some call.Gateway) c = few
  call_within (Some call.Row) c = few
  call_within (Some call.Byte) c = few
  call_within (Some call.Tick) c = few
  call_within (Some call.Turn) c = few
  call_within (Some call.Head) c = few
  call_within (Some call.Error) c = few
  call_within (Some call.Write) c = few
  call_within (Some call.Dump) c = few
  call_within (Some call.Date) c = few
  call_within (Some call.Plant) c = few
  call_within (Some call.Hand) c = few
  call_within (Some call.Read) c =
      gathering_within (read_number 65535 l (read_number 65535 l (read_number 65535 l c).next).next).next
  call_within (Some call.Block) c = gathering_within (read_number most_area l (read_line l c).next).next
  call_within (Some call.More) c = gathering_within c
  call_within None c = few

  pub run_within : length (run_line g most kept l).gathered ≤ most
  unfolding run_line
  run_within = call_within (read_call l).value (read_call l).next

overlay_length : (l s : List ℕ) → length l ≤ length s → length (overlay l s) ≡ length s
unfolding overlay
overlay_length l s few = omega (arith, length-append l (drop (length l) s), length-drop (length l) s)

module _ {x : Ran} {g : Gateway} {kept stored : Kept} {before after : Text} {r : Result (Unit {0}) BadLine} (t : Runs x g kept stored before after r) where
  -- the bytes kept after a line, read from the store
  pub kept_read : take stored.count stored.store.now ≡ kept_after x
  kept_read = rw (t.count, t.holds) (go x.used)
    where
      go : (u : Bool) → take (length (cond u [] x.gathered)) (overlay x.gathered kept.store.now) ≡ cond u [] x.gathered
      go true = refl
      go false = overlay_take x.gathered kept.store.now

  pub same_room : length x.gathered ≤ length kept.store.now → length stored.store.now ≡ length kept.store.now
  same_room few = ap length t.holds ∙ overlay_length x.gathered kept.store.now few
