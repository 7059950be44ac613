-- `reports::masks::rows_with` meets its contract: the loop goes from the last row to the first, so that each step doubles the mask. The
-- invariant: the mask of the rows from i on.
use Prim.Native.Nat.{◌≤◌}
use Rattle.devices.specs.Table.{rows_of}
use Rattle.reports.specs.Due.{with_bit}
use Rattle.reports.specs.Mask.{mask_where}
use lib.ListN.{length, drop}
use mathlib.Core.Path.{◌≡◌}
use Rattle.reports.proofs.masks.rows_with.Given as goal

abbrev pub invariant-loop-i : goal.invariant-loop-i
invariant-loop-i l = record {
  few : length (rows_of l.table) ≤ 32;
  mask : l.mask ≡ mask_where (with_bit l.bit) (drop l.i (rows_of l.table));
}
