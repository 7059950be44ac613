-- `replay::progress::Progress::last` meets its contract: a line where a byte is kept.
use Rattle.std.proofs.Common.{◌≡◌, take, sym, ◌∙◌, arith, length-take}
use Rattle.text.proofs.Places.{puts_nothing, puts_same}
use Rattle.replay.specs.Progress.{view, last_of}
use Rattle.replay.proofs.Parts.{last_some}
use Rattle.replay.proofs.PartSizes.{last_whole}
use Rattle.replay.proofs.progress.Progress.last.Goals as goal

pub returns-then-self-gt0 : goal.returns-then-self-gt0
returns-then-self-gt0 c = let l = c.args.self.now.line in
    let s = view c.args.self.now in
    let kept = take l.at l.out.now in
    let some = last_some s kept (λ e. omega (arith, c.if-self-gt0.true, e, length-take l.at l.out.now, c.requires.rooms.line)) in
    let whole = last_whole s c.bounded.ensures c.requires.room kept in
    let text = puts_same c.end_line.ensures.text (sym some) in
    record { text = text; whole = text.place ∙ rw c.requires.front whole }

pub returns-else-self-gt0 : goal.returns-else-self-gt0
unfolding last_of
returns-else-self-gt0 c = let none : c.args.self.now.line.at ≡ 0 = omega (arith, c.if-self-gt0.false) in
    rw none (record { text = puts_nothing c.args.text.now; whole = c.requires.front })
