-- `script::numbers::byte_in` meets its contract: two digits and no other number of them.
use Rattle.std.proofs.Common.{length}
use borrow.Author.Tests.{eq-eqb, ne_eqb}
use Rattle.script.specs.Numbers.{byte_in}
use Rattle.script.proofs.numbers.byte_in.Goals as goal

pub returns-then-word-ne2 : goal.returns-then-word-ne2
unfolding byte_in
returns-then-word-ne2 c = rw (ne_eqb (length c.args.word.now) 2 c.if-word-ne2.true)

pub returns-in_err-byte : goal.returns-in_err-byte
unfolding byte_in
returns-in_err-byte c = rw (eq-eqb (length c.args.word.now) 2 c.if-word-ne2.false, ← c.in_base.ensures.number) cc

pub returns : goal.returns
unfolding byte_in
returns c = rw (eq-eqb (length c.args.word.now) 2 c.if-word-ne2.false, ← c.in_base.ensures.number) cc
