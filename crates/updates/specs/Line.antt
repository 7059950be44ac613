-- The two lines (document 02, M-106), and the numbers that stand for them.
use Rattle.std.specs.Prelude.{ℕ, Bool, cond, eqb}
use Rattle.updates.specs.declared.line.Line.{Line}
use Rattle.updates.specs.declared.line.Line.TheVariants.{Controller, Panel}

-- (ours, D-106) the line that a number stands for: every number is one of the two
unfoldable pub line_of : ℕ → Line
line_of n = cond (eqb n 0) Controller Panel

-- (ours, D-106) the number that stands for a line
abbrev pub line_number : Line → ℕ
line_number Controller = 0
line_number Panel = 1

-- (ours) the two are one line
abbrev pub same_line : Line → Line → Bool
same_line l m = eqb (line_number l) (line_number m)
