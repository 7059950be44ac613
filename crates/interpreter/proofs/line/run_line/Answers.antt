-- `interpreter::line::run_line` meets its contract: the call that the line begins with.
use Rattle.std.proofs.Common.{◌≡◌, is_ok, false, length, rules}
use Rattle.interpreter.specs.Keeping.{held}
use Rattle.interpreter.proofs.Gatherings.{runs_unknown, trimmed_small, trimmed_held, trimmed_length, runs_trimmed}
use Rattle.interpreter.proofs.Beginnings.{run_unknown, run_called}
use Rattle.interpreter.proofs.line.run_line.Goals as goal

pub call_done-requires : goal.call_done-requires
call_done-requires c = trimmed_small c.args.kept.now c.trim.new.self c.trim.ensures.store c.trim.ensures.count

pub returns-in_err-call : goal.returns-in_err-call
returns-in_err-call c =
    let a = c.args in
    let kept = a.kept.now in
    let trimmed = c.trim.new.self in
    let store = c.trim.ensures.store in
    let count = c.trim.ensures.count in
    let refused : is_ok c.from_residual.result ≡ false = search rules in
    let ran = run_unknown c.new-words.result a.line.now c.new-words.ensures.line c.new-words.ensures.start c.read_call.ensures.0 a.gateway.now (length kept.store.now) (held kept) c.in_err-call.ensures.ok_part in
    rw (ran, ← trimmed_held kept trimmed store count)
    (runs_trimmed kept trimmed store count (runs_unknown trimmed (trimmed_small kept trimmed store count) a.gateway.now a.text.now refused))

pub returns : goal.returns
returns c =
    let a = c.args in
    let kept = a.kept.now in
    let trimmed = c.trim.new.self in
    let store = c.trim.ensures.store in
    let count = c.trim.ensures.count in
    let ran = run_called c.new-words.result a.line.now c.new-words.ensures.line c.new-words.ensures.start c.read_call.ensures.0 a.gateway.now (length kept.store.now) (held kept) c.in_ok-call.ensures.ok_part c.read_call.ensures.1 in
    rw ran (runs_trimmed kept trimmed store count (rw (trimmed_held kept trimmed store count, trimmed_length kept trimmed store count) at c.call_done.ensures))
