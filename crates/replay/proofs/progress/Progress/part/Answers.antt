-- `replay::progress::Progress::part` meets its contract: bytes of a line, and its end where it has one.
use Rattle.std.proofs.Common.{◌∙◌, arith}
use Rattle.text.specs.Place.{newline}
use Rattle.text.proofs.Scans.{place_between}
use Rattle.replay.specs.Progress.{view}
use Rattle.replay.proofs.Parts.{step_open, step_line}
use Rattle.replay.proofs.PartSizes.{step_whole}
use Rattle.replay.proofs.progress.Progress.part.Goals as goal

pub returns-then-end-bytes : goal.returns-then-end-bytes
returns-then-end-bytes c = let bytes = c.args.bytes.now in
    let s = view c.args.self.now in
    let step = step_open s bytes c.place_of-end.ensures (rw c.take.ensures at c.extend.ensures.state) c.if-end-bytes.true c.args.text.now in
    let whole = step_whole s c.bounded.ensures c.requires.room bytes in
    record {
      used = step.used;
      within = omega (arith, c.if-end-bytes.true);
      state = step.state;
      rooms = c.extend.ensures.rooms;
      text = step.text;
      whole = step.text.place ∙ rw c.requires.front whole;
    }

pub overflow_add-result : goal.overflow_add-result
overflow_add-result c = let bytes = c.args.bytes.now in
    omega (arith, place_between newline bytes 0 c.place_of-end.ensures (omega arith), c.if-end-bytes.false)

pub returns : goal.returns
returns c = let bytes = c.args.bytes.now in
    let s = view c.args.self.now in
    let step = step_line s bytes c.place_of-end.ensures (rw c.take.ensures at c.extend.ensures.state) c.if-end-bytes.false c.end_line.ensures.state c.end_line.ensures.text in
    let whole = step_whole s c.bounded.ensures c.requires.room bytes in
    record {
      used = step.used;
      within = omega (arith, place_between newline bytes 0 c.place_of-end.ensures (omega arith), c.if-end-bytes.false);
      state = step.state;
      rooms = c.end_line.ensures.rooms;
      text = step.text;
      whole = step.text.place ∙ rw c.requires.front whole;
    }
