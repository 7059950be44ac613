-- `listing::line::answer_line` meets its contract: no line, or that of a refusal, of an update or of a reply, each short enough.
use Rattle.std.proofs.Common.{arith}
use Rattle.text.specs.Event.{queued_word}
use Rattle.listing.proofs.Lengths.{short_line_most, reply_line_most}
use Rattle.listing.proofs.line.answer_line.Goals as goal

pub returns-in-Queued-clause-short : goal.returns-in-Queued-clause-short
returns-in-Queued-clause-short c =
    rw c.in-Queued.is (short_line_most c.args.offset queued_word c.in-Queued.n (omega arith) (omega arith) (omega arith))

pub returns-in-Replied-clause-short : goal.returns-in-Replied-clause-short
returns-in-Replied-clause-short c =
    rw c.in-Replied.is (reply_line_most c.args.offset c.in-Replied.n c.args.reply.now (omega arith) (omega arith) (omega arith))
