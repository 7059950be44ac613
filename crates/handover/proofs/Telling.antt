-- What is told of the input, by whether it has a byte; and that all of it fits the room. Assumes nothing.
use Rattle.std.proofs.Common.{◌≡◌, ℕ, ◌^◌, ◌<◌, ◌≤◌, List, [], ◌∷◌, length, get_or, drop, refl, arith}
use Rattle.text.specs.Event.{refused_word}
use Rattle.text.proofs.Lengths.{event_line_most}
use Rattle.gateway.specs.declared.gateway.Gateway.{Gateway}
use Rattle.gateway.specs.View.{view}
use Rattle.transfer.specs.declared.reader.ReadRefusal.{ReadRefusal}
use Rattle.transfer.specs.declared.reader.ReadRefusal.TheVariants.{Length}
use Rattle.transfer.specs.Reading.{read_number}
use Rattle.transcript.proofs.AnswerLengths.{read_small}
use Rattle.transcript.proofs.StateLengths.{StateFits, carried_most}
use Rattle.handover.specs.Told.{most_told, refused_line, read_text, told_of, told}

pub told_none : (l : List ℕ) → length l ≡ 0 → told l ≡ refused_line 0 Length
unfolding told
told_none [] e = refl
told_none (x ∷ l) e = absurd (omega arith)

pub told_some : (l : List ℕ) → (length l ≡ 0 → ⊥) → told l ≡ told_of (get_or l 0 0) (drop 1 l)
unfolding told
told_some [] h = absurd (h refl)
told_some (x ∷ l) h = refl

pub refused_fits : (offset : ℕ) (e : ReadRefusal) → offset < 2 ^ 64 → length (refused_line offset e) ≤ most_told
unfolding refused_line
refused_fits offset e h = let small = read_small e in omega (arith, event_line_most offset refused_word (read_number e) h (omega arith))

pub read_fits : (g : Gateway) → StateFits (view g) → length (read_text g) ≤ most_told
unfolding read_text
read_fits g f = omega (arith, carried_most g.properties (view g).table f.properties f.few_rows f.rows)
