-- `script::cursor::Cursor::read_bytes` meets its contract: the bytes so far, and the words that are left.
use Rattle.std.proofs.Common.{◌≡◌, length, sym, ◌∙◌, arith, rules, true, false}
use Rattle.std.proofs.lemmas.Bool.Decides.{nat_tests}
use Rattle.script.proofs.WordPlaces.{word_after}
use Rattle.script.proofs.Readings.{gathered_none, gathered_more, gathered_count, gathered_bytes, gathered_refused, gathered_before}
use Rattle.script.proofs.cursor.Cursor.read_bytes.Goals as goal

pub loop-word-init : goal.loop-word-init
loop-word-init c = gathered_none c.args.self c.new-bytes.result

pub returns-then-self-clause-count : goal.returns-then-self-clause-count
returns-then-self-clause-count c =
    let none : length c.read_word-word.result.now ≡ 0 = grind (arith, nat_tests) in
    let good : c.loop-word.self.good ≡ true = rw c.read_word-word.ensures.next at c.if-self.true in
    rw good at (gathered_count c.args.self c.new-bytes.result c.loop-word.invariant c.read_word-word.ensures.word none c.new-bytes.ensures.front)

pub returns-then-self-clause-bytes : goal.returns-then-self-clause-bytes
returns-then-self-clause-bytes c =
    let none : length c.read_word-word.result.now ≡ 0 = grind (arith, nat_tests) in
    let same = c.loop-word.invariant.put.same_buffer ∙ c.new-bytes.ensures.same_buffer in
    let bytes = gathered_bytes c.args.self c.new-bytes.result c.loop-word.invariant c.read_word-word.ensures.word none c.new-bytes.ensures.front in
    search (rules, same, bytes)

pub returns-else-self-clause-count : goal.returns-else-self-clause-count
returns-else-self-clause-count c =
    let none : length c.read_word-word.result.now ≡ 0 = grind (arith, nat_tests) in
    let bad : c.loop-word.self.good ≡ false = rw c.read_word-word.ensures.next at c.if-self.false in
    rw bad at (gathered_count c.args.self c.new-bytes.result c.loop-word.invariant c.read_word-word.ensures.word none c.new-bytes.ensures.front)

pub returns-else-self-clause-bytes : goal.returns-else-self-clause-bytes
returns-else-self-clause-bytes c =
    let none : length c.read_word-word.result.now ≡ 0 = grind (arith, nat_tests) in
    let same = c.loop-word.invariant.put.same_buffer ∙ c.new-bytes.ensures.same_buffer in
    let bytes = gathered_bytes c.args.self c.new-bytes.result c.loop-word.invariant c.read_word-word.ensures.word none c.new-bytes.ensures.front in
    search (rules, same, bytes)

pub returns-in_default-clause-count : goal.returns-in_default-clause-count
returns-in_default-clause-count c =
    gathered_refused c.args.self c.new-bytes.result c.loop-word.invariant c.read_word-word.ensures.word (λ e. absurd (grind (arith, nat_tests))) (sym c.byte_in.ensures ∙ c.in_default.is) c.new-bytes.ensures.front

pub returns-in_default-clause-bytes : goal.returns-in_default-clause-bytes
returns-in_default-clause-bytes c =
    let same = c.loop-word.invariant.put.same_buffer ∙ c.new-bytes.ensures.same_buffer in
    let bytes = gathered_before c.args.self c.new-bytes.result c.loop-word.invariant c.read_word-word.ensures.word (λ e. absurd (grind (arith, nat_tests))) (sym c.byte_in.ensures ∙ c.in_default.is) c.new-bytes.ensures.front in
    grind (arith, same, bytes)

pub loop-word-smaller : goal.loop-word-smaller
loop-word-smaller c =
    let line = c.loop-word.self.line.now in
    let at = c.loop-word.self.at in
    let on = word_after line at (λ e. absurd (grind (arith, nat_tests, c.read_word-word.ensures.word))) in
    rw c.read_word-word.ensures.next (omega (arith, on.0, on.1))

pub loop-word-preserved : goal.loop-word-preserved
loop-word-preserved c =
    rw c.read_word-word.ensures.next (gathered_more c.args.self c.new-bytes.result c.loop-word.invariant c.read_word-word.ensures.word (λ e. absurd (grind (arith, nat_tests))) (sym c.byte_in.ensures ∙ c.in-Some.is) c.put_byte.ensures)
