-- `script::names::named` meets its contract: the answer for all rows is the answer for those from the index on.
use Rattle.std.proofs.Common.{◌≡◌, drop}
use Rattle.script.specs.Names.{rows, named}
use Rattle.script.proofs.names.named.Given as goal

abbrev pub invariant-loop-name : goal.invariant-loop-name
invariant-loop-name g l = named (rows l.table) l.word ≡ named (rows (drop l.name-index l.table)) l.word
