-- `text::place::Text::put_decimal` meets its contract: a number below 10 is its digit, any other the text of its tenth and one digit
-- more.
use Prim.Native.Nat.{◌/◌, ◌%◌}
use mathlib.Core.Path.{◌≡◌}
use native.Mathlib.Omega.{arith}
use Rattle.text.specs.Place.{Puts}
use Rattle.text.specs.Decimal.{decimal}
use Rattle.text.proofs.Numbers.{decimal_digit, decimal_more}
use Rattle.text.proofs.Places.{puts_then}
use Rattle.text.proofs.place.Text.+put_decimal.Goals as goal
use Rattle.text.proofs.place.Text.+put_decimal.Goals.{then-n-ge10, else-n-ge10}

pub returns : goal.returns
returns t c = let n = c.args.n in
    elim c.if-n-ge10.branch [
      | then-n-ge10 w ↦
          let tenth : Puts (decimal (n / 10)) c.args.self.now c.if-n-ge10.self = rw w.self-is w.put_decimal.ensures in
          rw (decimal_more n (omega arith), ← c.digit_of.ensures) (puts_then tenth c.put_byte.ensures)
      | else-n-ge10 w ↦
          let same : n % 10 ≡ n = omega arith in
          rw (decimal_digit n (omega arith), ← same, ← c.digit_of.ensures, ← w.self-is) c.put_byte.ensures
    ]
