-- `listing::lister::list` meets its contract: the lines so far are those of the bytes used, event by event.
use Rattle.std.proofs.Common.{◌≡◌, ◌-◌, length}
use Rattle.tpck.specs.Scan.{joined}
use Rattle.tpck.proofs.Fits.{Whole}
use Rattle.updates.specs.declared.line.Line.TheVariants.{Controller}
use Rattle.gateway.specs.View.{view}
use Rattle.blocks.specs.Parts.{with_moving}
use Rattle.text.proofs.Reports.{Used}
use Rattle.listing.specs.Listing.{next, line_of}
use Rattle.listing.proofs.lister.list.Given as goal

abbrev pub invariant-loop-used : goal.invariant-loop-used
invariant-loop-used l = record {
  room : length l.reply ≡ 32;
  whole : Whole (joined l.moving.control l.body);
  used : Used next line_of (record { state = view l.gateway; offset = l.offset }) l.bytes 256 l.initial.text l.text (view (with_moving l.gateway Controller l.moving l.body)) l.used;
}

abbrev pub decreases-loop-used : goal.decreases-loop-used
decreases-loop-used l = length l.bytes - l.used
