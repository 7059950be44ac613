-- The serial lines as an answer names them (ours: docs/REPLAY.md).
use Rattle.std.specs.Prelude.{ℕ, List}
use Rattle.text.specs.Words.{controller_word, panel_word}
use Rattle.updates.specs.declared.line.Line.{Line}
use Rattle.updates.specs.declared.line.Line.TheVariants.{Controller, Panel}

-- (02, M-106) a LINE: controller or panel
abbrev pub line_text : Line → List ℕ
line_text Controller = controller_word
line_text Panel = panel_word
