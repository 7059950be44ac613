-- `transcript::numbers::put_numbers` meets its contract: what is put so far are the numbers passed.
use Rattle.std.proofs.Common.{◌≡◌, ℕ, take}
use Rattle.text.specs.Place.{Puts}
use Rattle.text.specs.Texts.{texts}
use Rattle.transcript.specs.Fields.{number_text}
use Rattle.transcript.proofs.numbers.put_numbers.Given as goal

abbrev pub invariant-loop-n : goal.invariant-loop-n
invariant-loop-n g l = (number : _ → ℕ) → ((n : _) (m : ℕ) → g.T.Into.converts n m → m ≡ number n)
    → Puts (texts (λ n. number_text (number n)) (take l.n-index l.list)) l.initial.text l.text
