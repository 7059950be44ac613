-- The numbers with which a call of a host in C may be refused are those that the header lists at it. Assumes nothing.
use Prim.Native.Nat.{ℕ, zero, suc}
use mathlib.Core.Path.{◌≡◌, refl}
use mathlib.Core.Bool.{true}
use mathlib.Core.List.{List, [], ◌∷◌}
use lib.Dec.{eqb-suc-zero}
use lib.ListN.{length}
use Rattle.std.specs.Prelude.{Ok, Err}
use Rattle.lists.specs.Filter.{All}
use Rattle.lists.specs.Overlay.{overlay}
use Rattle.tpck.specs.declared.event.Drop.{Drop}
use Rattle.tpck.specs.declared.event.Drop.TheVariants.{Restarted, Early, TooLong, Checksum}
use Rattle.devices.specs.declared.field.Field.{Field}
use Rattle.devices.specs.declared.row.Row.{Row}
use Rattle.devices.specs.declared.table.RowRefusal.{RowRefusal}
use Rattle.devices.specs.declared.table.RowRefusal.TheVariants.{BadRow, AddressInTable, TableFull}
use Rattle.trpc.specs.declared.judging.FrameError.{FrameError}
use Rattle.trpc.specs.declared.judging.FrameError.TheVariants.{WrongType, TooShort, WrongService, UnknownMethod, ServiceNotUsed, WrongWidth, UnknownAddress, StateTooHigh}
use Rattle.updates.specs.Line.{line_of}
use Rattle.gateway.specs.declared.gateway.Gateway.{Gateway}
use Rattle.gateway.specs.declared.answers.TurnRefusal.{TurnRefusal}
use Rattle.gateway.specs.declared.answers.TurnRefusal.TheVariants as turn
use Rattle.gateway.specs.declared.answers.TurnAnswer.{TurnAnswer}
use Rattle.gateway.specs.declared.answers.TurnAnswer.TheVariants as turns
use Rattle.gateway.specs.declared.answers.ByteRefusal.{ByteRefusal}
use Rattle.gateway.specs.declared.answers.ByteRefusal.TheVariants as byte
use Rattle.gateway.specs.declared.answers.ByteAnswer.{ByteAnswer}
use Rattle.gateway.specs.declared.answers.ByteAnswer.TheVariants as bytes
use Rattle.gateway.specs.Calls as calls
use Rattle.gateway.specs.Byte as byte_call
use Rattle.gateway.specs.Turn as turn_call
use Rattle.gateway.specs.View.{view}
use Rattle.transfer.specs.declared.writer.HandRefusal.{HandRefusal}
use Rattle.transfer.specs.declared.writer.HandRefusal.TheVariants as unhanded
use Rattle.gateway.specs.declared.answers.HeadRefusal.TheVariants.{NoneWaits}
use Rattle.transfer.specs.Hand.{HandAnswer, hand}
use Rattle.ledger.specs.Call.{AddAnswer, HeadAnswer}
use Rattle.ledger.specs.Demand3.{refusal}
use Rattle.capi.specs.declared.answers.DeviceAnswer.{DeviceAnswer}
use Rattle.capi.specs.Answers.{of_add, of_byte, of_turn, of_head, of_hand, heard}
use Rattle.capi.specs.Host.{HostCall, handed, host_made, add_says, byte_says, turn_says, head_says, hand_says, says}
use Rattle.capi.specs.Host.HostCall.{Add, Byte, Tick, Turn, Head, SetNetworkError, CheckDate, Hand}
use Rattle.capi.specs.Statement.{refusal_named, Named}

row_named : (r : Row) (e : RowRefusal) → refusal_named (Add r) (refusal (add_says (of_add (Err e)))) ≡ true
row_named r BadRow = refl
row_named r AddressInTable = refl
row_named r TableFull = refl

add_named : (r : Row) (a : AddAnswer) → refusal_named (Add r) (refusal (add_says (of_add a))) ≡ true
add_named r (Ok u) = refl
add_named r (Err e) = row_named r e

module _ (l b : ℕ) (lent buffer : List ℕ) where
  abbrev IsNamed : ByteAnswer → Type 0
  IsNamed a = refusal_named (Byte l b lent) (refusal (byte_says (of_byte a) buffer)) ≡ true

  drop_named : (d : Drop) (n : ℕ) → IsNamed (bytes.Refused (byte.Dropped d n))
  drop_named Restarted n = refl
  drop_named Early n = refl
  drop_named TooLong n = refl
  drop_named Checksum n = refl

  frame_named : (e : FrameError) → IsNamed (bytes.Refused (byte.Rejected e))
  frame_named WrongType = refl
  frame_named TooShort = refl
  frame_named WrongService = refl
  frame_named UnknownMethod = refl
  frame_named ServiceNotUsed = refl
  frame_named WrongWidth = refl
  frame_named UnknownAddress = refl
  frame_named StateTooHigh = refl

  byte_refusal_named : (e : ByteRefusal) → IsNamed (bytes.Refused e)
  byte_refusal_named byte.Short = refl
  byte_refusal_named (byte.Dropped d n) = drop_named d n
  byte_refusal_named (byte.Rejected e) = frame_named e
  byte_refusal_named byte.FieldWaits = refl
  byte_refusal_named byte.QueueFull = refl

  byte_named : (a : ByteAnswer) → IsNamed a
  byte_named bytes.Nothing = refl
  byte_named (bytes.Refused e) = byte_refusal_named e
  byte_named (bytes.Queued n) = refl
  byte_named (bytes.Replied n) = refl

module _ (f : Field) (h : DeviceAnswer) (lent buffer : List ℕ) where
  turn_refusal_named : (e : TurnRefusal) → refusal_named (Turn f h lent) (refusal (turn_says (of_turn (turns.Refused e)) buffer)) ≡ true
  turn_refusal_named turn.Short = refl
  turn_refusal_named turn.NoneWaits = refl
  turn_refusal_named turn.NotHead = refl

  turn_named : (a : TurnAnswer) → refusal_named (Turn f h lent) (refusal (turn_says (of_turn a) buffer)) ≡ true
  turn_named (turns.Refused e) = turn_refusal_named e
  turn_named turns.Failed = refl
  turn_named (turns.Replied l n) = refl

head_named : (a : HeadAnswer) → refusal_named Head (refusal (head_says (of_head a))) ≡ true
head_named (Err NoneWaits) = refl
head_named (Ok w) = refl

module _ (place : ℕ) (lent buffer : List ℕ) where
  hand_refusal_named : (e : HandRefusal) → refusal_named (Hand place lent) (refusal (hand_says (of_hand (Err e)) buffer)) ≡ true
  hand_refusal_named unhanded.Short = refl
  hand_refusal_named unhanded.UpdatesWait = refl

  hand_named : (a : HandAnswer) → refusal_named (Hand place lent) (refusal (hand_says (of_hand a) buffer)) ≡ true
  hand_named (Ok zero) = refl
  hand_named (Ok (suc n)) = rw (eqb-suc-zero n)
  hand_named (Err e) = hand_refusal_named e

call_named : (g : Gateway) (c : HostCall) → refusal_named c (refusal (says (handed g c).read)) ≡ true
unfolding handed
call_named g (Add r) = add_named r (calls.add_row (view g) r).answer
call_named g (Byte l b lent) =
    let m = byte_call.byte (view g) (line_of l) b (length lent) in
    byte_named l b lent (overlay m.reply lent) m.answer
call_named g Tick = refl
call_named g (Turn f h lent) =
    let m = turn_call.turn (view g) f (heard h) (length lent) in
    turn_named f h lent (overlay m.reply lent) m.answer
call_named g Head = head_named (calls.head_of (view g))
call_named g (SetNetworkError n) = refl
call_named g CheckDate = refl
call_named g (Hand place lent) =
    let m = hand (view g) place (length lent) in
    hand_named place lent (overlay m.reply lent) m.answer

pub calls_named : (g : Gateway) (cs : List HostCall) → All Named (host_made g cs)
unfolding host_made
calls_named g [] = tt
calls_named g (c ∷ cs) = (call_named g c, calls_named (handed g c).gateway cs)
