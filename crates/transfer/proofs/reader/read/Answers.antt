-- `transfer::reader::read` meets its contract: the answer for all bytes is the answer for those not passed.
use mathlib.Core.Path.{sym, ap, ◌∙◌}
use native.Mathlib.Omega.{arith}
use borrow.Author.Tests.{lt-ltb}
use Rattle.std.specs.Prelude.{Result}
use Rattle.transfer.specs.declared.reader.Reader.{Reader}
use Rattle.transfer.specs.declared.reader.ReadRefusal.{ReadRefusal}
use Rattle.transfer.specs.Reading.{stepped, reading, read}
use Rattle.transfer.proofs.Bytewise.{read_all, place_goes, place_refused, end_done, end_early}
use Rattle.transfer.proofs.reader.read.Goals as goal

pub returns-then-count-gt-MOST_ROWS : goal.returns-then-count-gt-MOST_ROWS
unfolding read
returns-then-count-gt-MOST_ROWS c = rw (lt-ltb 32 c.args.count c.if-count-gt-MOST_ROWS.true) c.refused.ensures

pub loop-i-init : goal.loop-i-init
loop-i-init c = let a = c.args in
    read_all a.firmware a.protocol a.count a.bytes.now c.if-count-gt-MOST_ROWS.false ∙ ap (λ (r : Reader). reading a.firmware a.protocol a.count r a.bytes.now 0) (sym c.start-reader.ensures)

pub returns-in-Err : goal.returns-in-Err
returns-in-Err c = let a = c.args in
    let l = c.loop-i in
    c.refused-in-Err.ensures
    ∙ sym (l.invariant ∙ place_refused a.firmware a.protocol a.count l.reader a.bytes.now l.i (omega arith) c.in-Err.why (sym c.byte.ensures ∙ ap (λ (z : Result (Unit {0}) ReadRefusal). stepped z c.byte.new.self) c.in-Err.is))

pub loop-i-preserved : goal.loop-i-preserved
loop-i-preserved c = let a = c.args in
    let l = c.loop-i in
    l.invariant ∙ place_goes a.firmware a.protocol a.count l.reader a.bytes.now l.i (omega arith) c.byte.new.self (sym c.byte.ensures ∙ ap (λ (z : Result (Unit {0}) ReadRefusal). stepped z c.byte.new.self) c.in-Ok.is)

pub returns-then-not-done : goal.returns-then-not-done
returns-then-not-done c = let a = c.args in
    let l = c.loop-i in
    c.refused-then-not-done.ensures ∙ sym (l.invariant ∙ end_early a.firmware a.protocol a.count l.reader a.bytes.now l.i (omega arith) (sym c.done.ensures ∙ c.if-not-done.true))

pub returns : goal.returns
returns c = let a = c.args in
    let l = c.loop-i in
    c.accepted.ensures ∙ sym (l.invariant ∙ end_done a.firmware a.protocol a.count l.reader a.bytes.now l.i (omega arith) (sym c.done.ensures ∙ c.if-not-done.false))
