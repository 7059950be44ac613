-- `reports::masks::take_lowest` meets its contract: the bit is in the mask.
use Rattle.reports.proofs.Digits.{lowest_within, bit_is}
use lib.Count.{count_trailing_zeros}
use Rattle.reports.proofs.masks.take_lowest.Goals as goal

pub overflow_sub-mask : goal.overflow_sub-mask
overflow_sub-mask c = rw (bit_is (count_trailing_zeros 32 c.args.mask.now) c.requires) (lowest_within 32 c.args.mask.now c.requires)
