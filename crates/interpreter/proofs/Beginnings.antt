-- The call that a line begins with, read by the code. Assumes nothing.
use Rattle.std.proofs.Common.{◌≡◌, ℕ, List, Option, Some, None, sym, ◌∙◌, ap}
use Rattle.gateway.specs.declared.gateway.Gateway.{Gateway}
use Rattle.script.specs.declared.cursor.Cursor.{Cursor}
use Rattle.script.specs.declared.names.Call.{Call}
use Rattle.script.specs.Place.{Read, start, place, moved}
use Rattle.script.specs.Reading.{call_read}
use Rattle.script.specs.Names.{read_call}
use Rattle.interpreter.specs.Done.{as_was, bad}
use Rattle.interpreter.specs.Line.{call_done, run_line}

module _ (words : Cursor) (l : List ℕ) (line : words.line.now ≡ l) (begun : place words ≡ start) where
  read_first : call_read words.line.now (place words) ≡ read_call l
  unfolding read_call
  read_first = λ i. call_read (line i) (begun i)

  module _ {name : Option Call} (named : name ≡ (call_read words.line.now (place words)).value) (g : Gateway) (most : ℕ) (kept : List ℕ) where
    pub run_unknown : name ≡ None → run_line g most kept l ≡ as_was kept (bad g)
    unfolding run_line
    run_unknown none =
        let first : (read_call l).value ≡ None = sym (ap (λ (r : Read (Option Call)). r.value) read_first) ∙ sym named ∙ none in rw first

    pub run_called : {call : Call} → name ≡ Some call → {after : Cursor} → after ≡ moved words (call_read words.line.now (place words)).next
        → run_line g most kept l ≡ call_done (Some call) g most kept after.line.now (place after)
    unfolding run_line
    run_called {call} some {after} e =
        let first : (read_call l).value ≡ Some call = sym (ap (λ (r : Read (Option Call)). r.value) read_first) ∙ sym named ∙ some in
        let next : (read_call l).next ≡ place after = sym (ap place e ∙ ap (λ (r : Read (Option Call)). r.next) read_first) in
        let same : l ≡ after.line.now = sym (ap (λ (c : Cursor). c.line.now) e ∙ line) in
        rw first (λ i. call_done (Some call) g most kept (same i) (next i))
