-- The owner's check of the stored date (document 02, M-101), from any state. Assumes nothing.
use mathlib.Core.Path.{ap}
use Rattle.dates.proofs.Dates.{valid_or_same, valid_or_cleared}
use Rattle.trpc.specs.Properties.{with_checked_date}
use Rattle.gateway.specs.State.{State, applied}
use Rattle.gateway.specs.Calls.{check_date}
use Rattle.gateway.specs.Checked.{with_stored_date, DateChecked}

pub date_checked : (g : State) → DateChecked g (applied g (check_date g).effect)
unfolding check_date with_checked_date
date_checked g =
    record {
      stays = λ k. ap (with_stored_date g) (valid_or_same g.properties.date k);
      cleared = λ n. ap (with_stored_date g) (valid_or_cleared g.properties.date n);
    }
