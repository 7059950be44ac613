-- `replay::progress::Progress::extend` meets its contract: the bytes that fit are kept, and the rest make the line too long.
use Rattle.std.proofs.Common.{take, ap, length, ◌∙◌}
use lib.Seq.{length-sets}
use Rattle.replay.proofs.Parts.{kept_extended}
use Rattle.replay.proofs.progress.Progress.extend.Goals as goal

pub returns-clause-state : goal.returns-clause-state
returns-clause-state c = let s = c.args.self.now in
    rw c.as_bytes.ensures
    (kept_extended s.gateway s.lines (take s.kept.count s.kept.store.now) c.put.ensures c.requires.line s.over)

pub returns-clause-rooms : goal.returns-clause-rooms
returns-clause-rooms c = let l = c.args.self.now.line in
    record {
      line = ap length c.put.ensures.bytes ∙ length-sets l.out.now l.at c.args.bytes.now ∙ c.requires.line;
      store = c.requires.store;
    }
