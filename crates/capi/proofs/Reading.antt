-- What C reads says what the call answers: each C call is the call of demand 3's list, and so is a list of them. Assumes nothing.
use Prim.Native.Nat.{ℕ, zero, suc}
use mathlib.Core.Path.{◌≡◌, refl, ap, ◌∙◌}
use mathlib.Core.List.{List, [], ◌∷◌, map}
use lib.Dec.{eqb-suc-zero}
use lib.ListN.{length, take}
use Rattle.std.specs.Prelude.{Ok, Err}
use Rattle.lists.specs.Overlay.{overlay}
use Rattle.updates.specs.declared.line.Line.{Line}
use Rattle.updates.specs.Line.{line_of}
use Rattle.updates.proofs.Places.{line_of_number}
use Rattle.gateway.specs.declared.gateway.Gateway.{Gateway}
use Rattle.gateway.specs.declared.answers.HeadRefusal.TheVariants.{NoneWaits}
use Rattle.gateway.specs.declared.answers.TurnAnswer.{TurnAnswer}
use Rattle.gateway.specs.declared.answers.TurnAnswer.TheVariants as turns
use Rattle.gateway.specs.declared.answers.ByteAnswer.{ByteAnswer}
use Rattle.gateway.specs.declared.answers.ByteAnswer.TheVariants as bytes
use Rattle.gateway.specs.Calls as calls
use Rattle.gateway.specs.Byte as byte_call
use Rattle.gateway.specs.Turn as turn_call
use Rattle.gateway.specs.View.{view}
use Rattle.transfer.specs.Hand.{HandAnswer, hand}
use Rattle.ledger.specs.Call.{AddAnswer, HeadAnswer, Call, run, run_other, gateway_after, calls_made}
use Rattle.ledger.specs.Call as ledger
use Rattle.ledger.specs.Call.Answer.{RepliedTo, HeadIs}
use Rattle.ledger.specs.Statement.{calls_of}
use Rattle.capi.specs.Answers.{of_add, of_byte, of_turn, of_head, of_hand, heard}
use Rattle.capi.specs.Host.{HostCall, HostMade, handed, host_after, host_made, as_call, add_says, byte_says, turn_says, head_says, hand_says, says, as_made}
use Rattle.capi.specs.Host.HostCall.{Add, Byte, Tick, Turn, Head, SetNetworkError, CheckDate, Hand}
use Rattle.capi.specs.Statement.{host_calls}

add_says_lem : (a : AddAnswer) → add_says (of_add a) ≡ ledger.add_says a
add_says_lem (Ok u) = refl
add_says_lem (Err e) = refl

byte_says_lem : (a : ByteAnswer) (buffer : List ℕ) → byte_says (of_byte a) buffer ≡ ledger.byte_says a buffer
byte_says_lem bytes.Nothing buffer = refl
byte_says_lem (bytes.Refused e) buffer = refl
byte_says_lem (bytes.Queued n) buffer = refl
byte_says_lem (bytes.Replied n) buffer = refl

turn_says_lem : (a : TurnAnswer) (buffer : List ℕ) → turn_says (of_turn a) buffer ≡ ledger.turn_says a buffer
turn_says_lem (turns.Refused e) buffer = refl
turn_says_lem turns.Failed buffer = refl
turn_says_lem (turns.Replied l n) buffer = ap (λ (m : Line). RepliedTo m (take n buffer)) (line_of_number l)

head_says_lem : (a : HeadAnswer) → head_says (of_head a) ≡ ledger.head_says a
head_says_lem (Err NoneWaits) = refl
head_says_lem (Ok w) = ap (λ (m : Line). HeadIs m w.field w.value) (line_of_number w.line)

hand_says_lem : (a : HandAnswer) (buffer : List ℕ) → hand_says (of_hand a) buffer ≡ ledger.hand_says a buffer
hand_says_lem (Ok zero) buffer = refl
hand_says_lem (Ok (suc n)) buffer = rw (eqb-suc-zero n)
hand_says_lem (Err e) buffer = refl

-- one call: it hands back the gateway that the call leaves, and C reads its answer
pub call_handed : (g : Gateway) (c : HostCall) → (handed g c).gateway ≡ (run g (as_call c)).gateway
unfolding handed run run_other
call_handed g (Add r) = refl
call_handed g (Byte l b lent) = refl
call_handed g Tick = refl
call_handed g (Turn f h lent) = refl
call_handed g Head = refl
call_handed g (SetNetworkError n) = refl
call_handed g CheckDate = refl
call_handed g (Hand place lent) = refl

pub call_says : (g : Gateway) (c : HostCall) → says (handed g c).read ≡ (run g (as_call c)).answer
unfolding handed run run_other
call_says g (Add r) = add_says_lem (calls.add_row (view g) r).answer
call_says g (Byte l b lent) =
    let m = byte_call.byte (view g) (line_of l) b (length lent) in
    byte_says_lem m.answer (overlay m.reply lent)
call_says g Tick = refl
call_says g (Turn f h lent) =
    let m = turn_call.turn (view g) f (heard h) (length lent) in
    turn_says_lem m.answer (overlay m.reply lent)
call_says g Head = head_says_lem (calls.head_of (view g))
call_says g (SetNetworkError n) = refl
call_says g CheckDate = refl
call_says g (Hand place lent) =
    let m = hand (view g) place (length lent) in
    hand_says_lem m.answer (overlay m.reply lent)

-- ---- a list of calls

abbrev pub as_calls : List HostCall → List Call
as_calls cs = map as_call cs

pub after_is : (g : Gateway) (cs : List HostCall) → host_after g cs ≡ gateway_after g (as_calls cs)
unfolding host_after gateway_after
after_is g [] = refl
after_is g (c ∷ cs) = after_is (handed g c).gateway cs ∙ ap (λ (x : Gateway). gateway_after x (as_calls cs)) (call_handed g c)

pub made_is : (g : Gateway) (cs : List HostCall) → map as_made (host_made g cs) ≡ calls_made g (as_calls cs)
unfolding host_made calls_made
made_is g [] = refl
made_is g (c ∷ cs) =
    let rest = made_is (handed g c).gateway cs ∙ ap (λ (x : Gateway). calls_made x (as_calls cs)) (call_handed g c) in
    λ i. record { call = as_call c; answer = call_says g c i } ∷ rest i

pub calls_of_lem : (ms : List HostMade) → calls_of (map as_made ms) ≡ as_calls (host_calls ms)
calls_of_lem [] = refl
calls_of_lem (m ∷ ms) = ap (λ (l : List Call). as_call m.call ∷ l) (calls_of_lem ms)
