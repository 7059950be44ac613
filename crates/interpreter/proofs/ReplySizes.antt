-- How long the replies of bytes and turns are, and what is printed of a byte, a turn and the writers. Assumes nothing.
use Prim.Native.Nat.{ℕ, suc, ◌+◌, ◌*◌, ◌%◌, ◌^◌, ◌≤◌, ◌<◌}
use mathlib.Core.Path.{◌≡◌, refl, sym, subst}
use mathlib.Core.Bool.{Bool, true, false, cond}
use mathlib.Core.List.{List}
use native.Mathlib.Omega.{arith}
use borrow.Author.Tests.{ltb-false}
use lib.Dec.{ltb}
use lib.ListN.{length, length-replicate}
use Rattle.lists.specs.Overlay.{overlay}
use Rattle.lists.proofs.Loops.{outputs_most}
use Rattle.text.specs.Report.{wrapping}
use Rattle.tpck.specs.Event.{is_drop}
use Rattle.tpck.specs.Frame as tpck
use Rattle.tpck.specs.Write as writer
use Rattle.tpck.specs.declared.writer.Refusal.TheVariants.{NoRoom, TooMuchData}
use Rattle.std.proofs.Common.{Option, Ok, Err}
use Rattle.tpck.specs.Receive as receive
use Rattle.devices.specs.declared.field.Field.{Field}
use Rattle.updates.specs.declared.line.Line.{Line}
use Rattle.updates.specs.declared.line.Line.TheVariants.{Controller, Panel}
use Rattle.gateway.specs.declared.gateway.Gateway.{Gateway}
use Rattle.gateway.specs.declared.answers.ByteAnswer.{ByteAnswer}
use Rattle.gateway.specs.declared.answers.TurnAnswer.{TurnAnswer}
use Rattle.gateway.specs.Answers.{byte_number}
use Rattle.gateway.specs.Lines.{receiver_of}
use Rattle.gateway.specs.State.{State}
use Rattle.gateway.specs.Reply.{room}
use Rattle.gateway.specs.Taken.{TakenRight}
use Rattle.gateway.specs.Writes.{ByteWrites, TurnWrites}
use Rattle.gateway.specs.Writes.ByteWrites.{nothing, refused, queued, replied}
use Rattle.gateway.specs.Writes.TurnWrites.{untried, failed, stored}
use Rattle.gateway.specs.View.{view}
use Rattle.gateway.specs.Turn as turns
use Rattle.gateway.proofs.Parts.{view_put}
use Rattle.gateway.proofs.Theorems.{byte_writes, turn_writes}
use Rattle.gateway.proofs.Taken.{taken_right, byte_adds}
use Rattle.transfer.specs.Hand.{HandAnswer, hand}
use Rattle.transfer.specs.Writes.{HandWrites}
use Rattle.transfer.specs.Writes.HandWrites.{unwritten, past, written}
use Rattle.transfer.proofs.Writing.{hand_writes}
use Rattle.transcript.proofs.AnswerLengths.{byte_shown, ByteFits, byte_most, turn_shown, turn_most, written_shown, written_most, hand_shown, hand_most}
use Rattle.transcript.proofs.StateLengths.{StateFits}
use Rattle.interpreter.specs.Limits.{most_lent}
use Rattle.interpreter.specs.Bytes.{lent, byte_result, byte_next, byte_said, bytes_done}
use Rattle.interpreter.specs.Calls.{turn_done, write_said, hand_said}

-- ---- a byte

-- how many body bytes a receiver holds
abbrev held : receive.State → ℕ
held r = length r.body

byte_shown_lem : (r : receive.State) {a : ByteAnswer} {reply : List ℕ} → held r < 2 ^ 64 → TakenRight r a → ByteWrites a reply → ByteFits a × (byte_shown a ≤ room)
byte_shown_lem r h t nothing = (tt, omega arith)
byte_shown_lem r h t (refused e) = (omega (arith, t, drop_or_none (is_drop (byte_number e))), omega arith)
  where
    drop_or_none : (d : Bool) → cond d (held r) 0 ≤ held r
    drop_or_none true = omega arith
    drop_or_none false = omega arith
byte_shown_lem r h t (queued n k) = (omega arith, omega arith)
byte_shown_lem r h t (replied content f) = (omega (arith, f.line), f.line)

module _ (on : Line) (size : ℕ) where
  -- the receiver of the serial line
  abbrev receiver_in : State → receive.State
  receiver_in g = receiver_of g.receivers on

  byte_said_most : (place : ℕ) (g : Gateway) (b : ℕ) → place < 2 ^ 64 → held (receiver_in (view g)) < 2 ^ 64 → length (byte_said on size place g b) ≤ 151
  byte_said_most place g b h k =
      let x = byte_result on size g b in
      let s = byte_shown_lem (receiver_in (view g)) k (taken_right (view g) on b size) (byte_writes (view g) on b size) in
      byte_most place x.answer (overlay x.reply (lent size)) h s.0 s.1

  -- a byte adds one at most
  byte_grows : (g : Gateway) (b : ℕ) → held (receiver_in (view (byte_next on size g b))) ≤ suc (held (receiver_in (view g)))
  byte_grows g b =
      subst (λ (s : State). held (receiver_in s) ≤ suc (held (receiver_in (view g)))) (sym (view_put g (byte_result on size g b).effect)) (byte_adds (view g) on b size)

  pub bytes_most : (g : Gateway) (l : List ℕ) → held (receiver_in (view g)) + length l ≤ 2 ^ 64 → length (bytes_done on size g l).text ≤ length l * 151
  unfolding bytes_done
  bytes_most g l =
      outputs_most (byte_next on size) (wrapping (byte_said on size)) (λ s. held (receiver_in (view s))) byte_grows (2 ^ 64) 151
      (λ offset s b h. byte_said_most (offset % 2 ^ 64) s b (omega arith) h) 0 g l

-- a gateway of the sizes that every gateway has
pub few_held : (g : State) (on : Line) → StateFits g → length (receiver_of g.receivers on).body ≤ 258
few_held g Controller f = f.controller
few_held g Panel f = f.panel

-- ---- a turn

turn_shown_lem : {a : TurnAnswer} {reply : List ℕ} → TurnWrites a reply → turn_shown a ≤ room
turn_shown_lem (untried e) = omega arith
turn_shown_lem failed = omega arith
turn_shown_lem (stored l content f) = f.line

pub turn_done_most : (size : ℕ) (g : Gateway) (f : Field) (h : Option ℕ) → length (turn_done size g f h).text ≤ 139
turn_done_most size g f h =
    let x = turns.turn (view g) f h size in
    let s = turn_shown_lem (turn_writes (view g) f h size) in
    let m = turn_most x.answer (overlay x.reply (lent size)) (omega arith) in
    omega arith

-- ---- the writer

shown_written : (ptype : ℕ) (l out : List ℕ) → written_shown (writer.write ptype l out) ≤ length out
shown_written ptype l out = go (ltb tpck.most_data (length l)) (ltb (length out) (length (tpck.frame ptype l))) refl
  where
    go : (t u : Bool) → ltb (length out) (length (tpck.frame ptype l)) ≡ u
        → written_shown (cond t (Err TooMuchData) (cond u (Err NoRoom) (Ok (length (tpck.frame ptype l))))) ≤ length out
    go true u e = omega arith
    go false true e = omega arith
    go false false e = ltb-false (length out) (length (tpck.frame ptype l)) e

pub write_said_most : (size ptype : ℕ) (l : List ℕ) → size ≤ most_lent → length (write_said size ptype l) ≤ 3099
unfolding write_said
write_said_most size ptype l h =
    let a = writer.write ptype l (lent size) in
    let s = shown_written ptype l (lent size) in
    let n = length-replicate {A = ℕ} size 0 in
    let m = written_most a (writer.buffer ptype l (lent size)) (omega arith) in
    omega arith

-- ---- the writer of a hand-over

hand_shown_lem : {a : HandAnswer} {reply : List ℕ} → HandWrites a reply → hand_shown a ≤ room
hand_shown_lem (unwritten e) = omega arith
hand_shown_lem past = omega arith
hand_shown_lem (written content f) = f.line

pub hand_said_most : (size : ℕ) (g : Gateway) (place : ℕ) → length (hand_said size g place) ≤ 122
unfolding hand_said
hand_said_most size g place =
    let x = hand (view g) place size in
    let s = hand_shown_lem (hand_writes (view g) place size) in
    let m = hand_most x.answer (overlay x.reply (lent size)) (omega arith) in
    omega arith
