-- `replay::progress::Progress::run` meets its contract: a line that is too long is bad, any other is run.
use Rattle.std.proofs.Common.{◌≡◌, length, false, take, refl, sym, ◌∙◌, arith, length-take}
use Rattle.text.proofs.Places.{puts_nothing}
use Rattle.replay.proofs.Keeping.{run_within, kept_read, same_room}
use Rattle.interpreter.specs.Limits.{most_kept}
use Rattle.interpreter.proofs.Gatherings.{trimmed_small, trimmed_held, runs_unknown, runs_trimmed}
use Rattle.interpreter.specs.declared.keeping.Kept.{Kept}
use Rattle.replay.proofs.progress.Progress.run.Goals as goal

pub returns-then-self-clause-runs : goal.returns-then-self-clause-runs
returns-then-self-clause-runs c =
    let a = c.args.self.now in
    let kept : Kept = a.kept in
    let trimmed : Kept = record { store = kept.store; count = c.min-self.result } in
    let count : trimmed.count ≡ length (take kept.count kept.store.now) = c.min-self.ensures ∙ sym (length-take kept.count kept.store.now) in
    rw (c.if-self.true, ← trimmed_held kept trimmed refl count)
    (runs_trimmed kept trimmed refl count (runs_unknown trimmed (trimmed_small kept trimmed refl count) a.gateway c.args.text.now refl))

pub returns-clause-ends : goal.returns-clause-ends
returns-clause-ends c = let a = c.args.self.now in
    let ran = rw (c.requires.store, c.as_bytes.ensures) at c.run_line.ensures in
    let held = take a.kept.count a.kept.store.now in
    let line = take a.line.at a.line.out.now in
    let few = run_within a.gateway most_kept held (omega (arith, length-take a.kept.count a.kept.store.now, c.requires.store)) line in
    rw c.if-self.false
    (record {
      state = λ i. record { gateway = ran.tells.gateway i; lines = a.lines; kept = line; over = false; more = kept_read ran i };
      rooms = record { line = c.requires.line; store = same_room ran (rw c.requires.store few) ∙ c.requires.store };
      good = ran.tells.good;
      text = ran.tells.text;
      silent = λ bad. rw (ran.tells.silent (ran.tells.good ∙ bad)) (puts_nothing c.args.text.now);
    })

pub returns-clause-runs : goal.returns-clause-runs
returns-clause-runs c = rw c.if-self.false (rw (c.requires.store, c.as_bytes.ensures) at c.run_line.ensures)
