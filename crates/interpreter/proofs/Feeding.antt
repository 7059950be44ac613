-- The bytes of a line, one byte more at a time. Assumes nothing.
use Rattle.std.proofs.Common.{◌≡◌, ℕ, ◌+◌, ◌%◌, ◌^◌, ◌<◌, List, [], ◌++◌, length, take, get_or, refl, sym, ◌∙◌, arith}
use mathlib.Core.List.{foldl}
use Rattle.lists.proofs.Loops.{state_next, outputs_nil, outputs_next}
use Rattle.text.specs.declared.place.Text.{Text}
use Rattle.text.specs.Place.{Puts}
use Rattle.text.specs.Report.{wrapping, report}
use Rattle.text.proofs.Places.{puts_nothing, puts_same, puts_then}
use Rattle.updates.specs.declared.line.Line.{Line}
use Rattle.gateway.specs.declared.gateway.Gateway.{Gateway}
use Rattle.interpreter.specs.Done.{Does}
use Rattle.interpreter.specs.Bytes.{byte_next, byte_said, bytes_done}

module _ {S : Type 0} (next : S → ℕ → S) (text : ℕ → S → ℕ → List ℕ) (s : S) (bytes : List ℕ) (i : ℕ) (more : i < length bytes) where
  -- places below 2^64 are told as they are
  report_next : i < 2 ^ 64
      → report next text s 0 (take (i + 1) bytes) ≡ report next text s 0 (take i bytes) ++ text i (foldl next s (take i bytes)) (get_or bytes i 0)
  report_next fits =
      let m : (0 + i) % 2 ^ 64 ≡ i = omega arith in
      rw (outputs_next next (wrapping text) 0 s bytes i 0 more, m)

module _ (on : Line) (room : ℕ) (g : Gateway) (begun : Text) where
  pub bytes_none : Does (bytes_done on room g []) g begun begun
  unfolding bytes_done
  bytes_none = (refl, puts_same (puts_nothing begun) (sym (outputs_nil (byte_next on room) (wrapping (byte_said on room)) 0 g)))

  pub bytes_more : (bytes : List ℕ) (i : ℕ) {h k : Gateway} {before after : Text} → Does (bytes_done on room g (take i bytes)) h begun before
      → i < length bytes → i < 2 ^ 64 → {b : ℕ} → b ≡ get_or bytes i 0 → k ≡ byte_next on room h b → Puts (byte_said on room i h b) before after
      → Does (bytes_done on room g (take (i + 1) bytes)) k begun after
  unfolding bytes_done
  bytes_more bytes i so_far more fits {b = b} is next said =
      let n = byte_next on room in
      let t = byte_said on room in (
        next ∙ rw (so_far.0, is) (sym (state_next n g bytes i 0 more)),
        puts_same (puts_then so_far.1 said) (rw (so_far.0, is) (sym (report_next n t g bytes i more fits))),
      )
