-- `script::words::word_start` meets its contract: the answer for all is the answer for the bytes from i on.
use mathlib.Core.Path.{◌≡◌}
use Rattle.script.specs.Words.{word_start}
use Rattle.script.proofs.words.word_start.Given as goal

abbrev pub invariant-loop-i : goal.invariant-loop-i
invariant-loop-i l = word_start l.line l.at ≡ word_start l.line l.i
