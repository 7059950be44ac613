-- What the listing prints of blocks that come one after another is the listing of the whole line. Assumes nothing.
use Rattle.std.proofs.Common.{◌≡◌, ℕ, List}
use mathlib.Core.List.{flatten}
use Rattle.text.specs.Blocks.{printed}
use Rattle.text.specs.Report.{carried_after, lines_of}
use Rattle.text.proofs.Reports.{report_of_blocks}
use Rattle.listing.specs.Listing.{next, line_of, at_first, listing}

pub blocks_listed : (blocks : List (List ℕ)) → printed (carried_after next) (lines_of next line_of) at_first blocks ≡ listing (flatten blocks)
blocks_listed = report_of_blocks next line_of at_first
