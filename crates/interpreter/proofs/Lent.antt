-- A lent buffer: the front of an array of zeros, and what is printed of what is left there. Assumes nothing.
use Rattle.std.proofs.Common.{◌≡◌, ℕ, zero, suc, ◌+◌, ◌≤◌, Bool, true, false, cond, min, List, ◌∷◌, ◌++◌, length, take, drop, replicate, Option, is_ok, Result, refl, sym, ap, ◌∙◌, arith, Ok, Err}
use mathlib.Core.List.{append-nil}
use borrow.Author.Tests.{leb-true, leb-false}
use lib.Dec.{leb}
use lib.ListN.{length-take, length-replicate, take-append-drop}
use lib.Seq.{sets, sets-eq, take-append-le, take_all, take-length, drop-length}
use Rattle.lists.specs.Filter.{every}
use Rattle.lists.specs.Overlay.{overlay}
use Rattle.lists.proofs.Stores.{sets_append, sets_past}
use Rattle.tpck.specs.declared.writer.Refusal.{Refusal}
use Rattle.tpck.specs.Write as writer
use Rattle.devices.specs.declared.field.Field.{Field}
use Rattle.updates.specs.declared.line.Line.{Line}
use Rattle.gateway.specs.declared.gateway.Gateway.{Gateway}
use Rattle.gateway.specs.declared.byte.Fed.{Fed}
use Rattle.gateway.specs.declared.turn.Turned.{Turned}
use Rattle.gateway.specs.View.{view}
use Rattle.gateway.specs.Byte.{byte}
use Rattle.gateway.specs.Turn.{turn}
use Rattle.gateway.specs.Results.{fed, turned}
use Rattle.blocks.specs.declared.answers.Blocked.{Blocked}
use Rattle.blocks.specs.Block.{block, feed_of}
use Rattle.transfer.specs.declared.writer.HandRefusal.{HandRefusal}
use Rattle.transfer.specs.Hand.{hand}
use Rattle.script.specs.Place.{Place}
use Rattle.script.specs.Reading.{words_from, is_byte, bytes_after, counted, read_bytes}
use Rattle.transcript.specs.Answers.{byte_answer_text, turn_answer_text, written_text, hand_answer_text}
use Rattle.transcript.specs.Tallies.{block_answer_text}
use Rattle.interpreter.specs.Limits.{longest}
use Rattle.interpreter.specs.Bytes.{lent, byte_said}
use Rattle.interpreter.specs.Calls.{turn_done, write_said, hand_said}
use Rattle.interpreter.specs.Keeping.{block_done}

pub lent_is : (room size : ℕ) → room ≤ size → take room (replicate size 0) ≡ lent room
lent_is zero size h = refl
lent_is (suc n) zero h = absurd (omega arith)
lent_is (suc n) (suc m) h = ap (λ (l : List ℕ). 0 ∷ l) (lent_is n m (omega arith))

lent_length : (room : ℕ) → length (lent room) ≡ room
lent_length room = length-replicate room 0

-- what is printed of what a byte, a turn, a block and the writers leave there
module _ (room : ℕ) {buffer last : List ℕ} (is : buffer ≡ lent room) where
  pub byte_lent : (g : Gateway) (on : Line) (place b : ℕ) {x : Fed} → x ≡ fed g (byte (view g) on b (length buffer))
      → last ≡ overlay (byte (view g) on b (length buffer)).reply buffer → byte_answer_text place x.answer last ≡ byte_said on room place g b
  byte_lent g on place b e f = rw (e, f, is, lent_length)

  pub turn_lent : (g : Gateway) (f : Field) (h : Option ℕ) {x : Turned} → x ≡ turned g (turn (view g) f h (length buffer))
      → last ≡ overlay (turn (view g) f h (length buffer)).reply buffer
      → (x.gateway ≡ (turn_done room g f h).gateway) × (turn_answer_text x.answer last ≡ (turn_done room g f h).text)
  turn_lent g f h e l = (rw (e, is, lent_length), rw (e, l, is, lent_length))

  pub block_lent : (g : Gateway) (on : Line) (bytes : List ℕ) {x : Blocked} → x ≡ block g on bytes (length buffer)
      → last ≡ overlay (feed_of g on bytes (length buffer)).replies buffer
      → (x.gateway ≡ (block_done on room g bytes).gateway) × (block_answer_text x.answer x.counts last ≡ (block_done on room g bytes).text)
  unfolding block_done
  block_lent g on bytes e l = (rw (e, is, lent_length), rw (e, l, is, lent_length))

  pub write_lent : (ptype : ℕ) (bytes : List ℕ) {x : Result ℕ Refusal} → x ≡ writer.write ptype bytes buffer → last ≡ writer.buffer ptype bytes buffer
      → written_text x last ≡ write_said room ptype bytes
  unfolding write_said
  write_lent ptype bytes e l = rw (e, l, is)

  pub hand_lent : (g : Gateway) (place : ℕ) {x : Result ℕ HandRefusal} → x ≡ (hand (view g) place (length buffer)).answer
      → last ≡ overlay (hand (view g) place (length buffer)).reply buffer → hand_answer_text x last ≡ hand_said room g place
  unfolding hand_said
  hand_lent g place e l = rw (e, l, is, lent_length)

-- bytes put at the front of a buffer, read again: those that fit
front_read : (bytes buffer : List ℕ) → take (min (length bytes) (length buffer)) (sets buffer 0 bytes) ≡ take (length buffer) bytes
front_read bytes buffer = go (leb (length bytes) (length buffer)) refl
  where
    go : (t : Bool) → leb (length bytes) (length buffer) ≡ t → take (min (length bytes) (length buffer)) (sets buffer 0 bytes) ≡ take (length buffer) bytes
    go true e =
        let h = leb-true (length bytes) (length buffer) e in
        let m : min (length bytes) (length buffer) ≡ length bytes = omega arith in
        rw (m, sets-eq bytes buffer 0 (omega arith)) (take-append-le (length bytes) bytes (drop (0 + length bytes) buffer) (omega arith) ∙ take-length bytes ∙ sym (take_all (length buffer) bytes h))
    go false e =
        let h = leb-false (length bytes) (length buffer) e in
        let m : min (length bytes) (length buffer) ≡ length buffer = omega arith in
        let cut : bytes ≡ take (length buffer) bytes ++ drop (length buffer) bytes = sym (take-append-drop (length buffer) bytes) in
        let n : length (take (length buffer) bytes) ≡ length buffer = length-take (length buffer) bytes ∙ omega arith in
        let z : 0 + length buffer ≡ length buffer = omega arith in
        let front : sets buffer 0 (take (length buffer) bytes) ≡ take (length buffer) bytes =
        sets-eq (take (length buffer) bytes) buffer 0 (omega (arith, n)) ∙ rw (n, z, drop-length buffer) (append-nil (take (length buffer) bytes)) in
        let past : sets buffer 0 bytes ≡ sets (sets buffer 0 (take (length buffer) bytes)) (0 + length (take (length buffer) bytes)) (drop (length buffer) bytes) =
        ap (λ (l : List ℕ). sets buffer 0 l) cut ∙ sym (sets_append buffer 0 (take (length buffer) bytes) (drop (length buffer) bytes)) in
        let all : sets buffer 0 bytes ≡ take (length buffer) bytes = past ∙ rw front (sets_past (take (length buffer) bytes) (0 + length (take (length buffer) bytes)) (drop (length buffer) bytes) (omega arith)) in
        rw (m, all) (take_all (length buffer) (take (length buffer) bytes) (omega (arith, n)))

-- the bytes of a line, read into a buffer of the longest line and out of it
module _ (buffer : List ℕ) (size : length buffer ≡ longest) (l : List ℕ) (c : Place) where
  pub bytes_bad : {n : ℕ} → read_bytes (length buffer) l c ≡ Err n → is_ok (read_bytes longest l c) ≡ false
  bytes_bad e = rw size at (ap is_ok e)

  pub bytes_read : {n : ℕ} {after front : List ℕ} → read_bytes (length buffer) l c ≡ Ok n → after ≡ sets buffer 0 (bytes_after l c) → front ≡ take n after
      → (is_ok (read_bytes longest l c) ≡ true) × (front ≡ take longest (bytes_after l c))
  unfolding read_bytes
  bytes_read {n} {after} {front} e f g = (rw size at (ap is_ok e), go (every is_byte (words_from l c.at)) c.good e)
    where
      go : (t good : Bool) → cond t (counted good (min (length (bytes_after l c)) (length buffer))) (Err 0) ≡ Ok n → front ≡ take longest (bytes_after l c)
      go true true h =
          let m : n ≡ min (length (bytes_after l c)) (length buffer) = cc in
          g ∙ rw (m, f) (front_read (bytes_after l c) buffer ∙ rw size)
      go true false h = absurd cc
      go false good h = absurd cc
