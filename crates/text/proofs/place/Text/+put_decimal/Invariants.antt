-- `text::place::Text::put_decimal` calls itself on a smaller number, the measure.
use Rattle.text.proofs.place.Text.+put_decimal.Given as goal

abbrev pub decreases-put_decimal : goal.decreases-put_decimal
decreases-put_decimal l = l.n
