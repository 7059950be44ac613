-- `script::names::first_call` meets its contract: no word, a comment, or a name.
use Rattle.std.proofs.Common.{sym, ◌∙◌, arith}
use Rattle.std.proofs.lemmas.Bool.Decides.{nat_tests}
use Rattle.script.proofs.Naming.{first_none, first_comment, first_named}
use Rattle.script.proofs.names.first_call.Goals as goal
use Rattle.script.proofs.names.first_call.Goals.{then-is_empty-via-then-is_empty, then-is_empty-via-else-is_empty+then-word-eq35}

pub returns-then-is_empty : goal.returns-then-is_empty
returns-then-is_empty c = elim c.then-is_empty.branch [
  | then-is_empty-via-then-is_empty w ↦ sym (first_none c.args.word.now (grind (arith, nat_tests)))
  | then-is_empty-via-else-is_empty+then-word-eq35 w ↦ sym (first_comment c.args.word.now (grind (arith, nat_tests)) w.if-word-eq35.true)
]

pub returns : goal.returns
returns c = c.call_named.ensures ∙ sym (first_named c.args.word.now (grind (arith, nat_tests)) c.if-word-eq35.false)
