-- `blocks::feeding::feed` meets its contract: the bytes so far, and those up to the next event.
use Prim.Native.Nat.{◌-◌}
use lib.ListN.{length}
use Rattle.tpck.specs.Scan.{joined}
use Rattle.tpck.proofs.Fits.{Whole}
use Rattle.blocks.proofs.Along.{Along}
use Rattle.blocks.proofs.feeding.feed.Given as goal

abbrev pub invariant-loop-used : goal.invariant-loop-used
invariant-loop-used l = record {
  whole : Whole (joined l.moving.control l.body);
  along : Along l.gateway l.line l.bytes l.initial.area l.area l.body l.moving l.counts l.written l.used;
}

abbrev pub decreases-loop-used : goal.decreases-loop-used
decreases-loop-used l = length l.bytes - l.used
