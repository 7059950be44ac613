-- `frames::line::event_line` meets its contract: the line of a drop, or of a frame, is short enough.
use Rattle.std.proofs.Common.{drop, length, ap, ◌∙◌, arith, length-take}
use Rattle.text.proofs.Lengths.{drop_line_most}
use Rattle.frames.proofs.Lengths.{frame_line_most}
use Rattle.frames.proofs.line.event_line.Goals as goal

pub returns-in-Dropped-clause-short : goal.returns-in-Dropped-clause-short
returns-in-Dropped-clause-short c =
    rw (c.in-Dropped.is, ← c.number.ensures) (omega (arith, drop_line_most c.args.offset c.number.result c.in-Dropped.taken (omega arith) (omega arith) (omega arith)))

pub returns-in-Frame-clause-short : goal.returns-in-Frame-clause-short
returns-in-Frame-clause-short c = let a = c.args in
    let few = ap length c.data_of.ensures ∙ length-take c.in-Frame.size (drop 2 a.bytes.now) in
    rw (c.in-Frame.is, ← c.data_of.ensures) (frame_line_most a.offset c.in-Frame.ptype c.data_of.result.now (omega arith) (omega arith) (omega arith))
