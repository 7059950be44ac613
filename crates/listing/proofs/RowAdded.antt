-- The gateway that the listing starts with: a fresh one takes the row. Assumes nothing.
use Rattle.std.proofs.Common.{◌≡◌, refl, ap, ◌∙◌}
use Rattle.devices.specs.Row.{for_state, has, stored, mode_legal, in_range, legal, holds, holds_in_states, values_held, keeps_rules}
use Rattle.std.specs.Prelude.{Ok}
use Rattle.devices.specs.Table.{rows_of, fresh_table, row_answer}
use Rattle.updates.specs.Queue.{waiting, fresh_queue}
use Rattle.gateway.specs.State.{applied}
use Rattle.gateway.specs.Calls.{add_row, add_row_by}
use Rattle.gateway.specs.View.{view}
use Rattle.gateway.specs.Results.{fresh_receivers, fresh, adding}
use Rattle.gateway.proofs.Parts.{view_put}
use Rattle.listing.specs.First.{only_row, first_gateway}

row_added : row_answer (view (fresh 0 0)).table only_row ≡ Ok tt
unfolding row_answer keeps_rules values_held holds_in_states holds legal in_range mode_legal stored has for_state rows_of fresh fresh_table
row_added = refl

pub first_added : view (adding (fresh 0 0) (add_row (view (fresh 0 0)) only_row)).gateway ≡ first_gateway
unfolding add_row add_row_by fresh_receivers fresh fresh_table fresh_queue rows_of waiting
first_added =
    view_put (fresh 0 0) (add_row (view (fresh 0 0)) only_row).effect
    ∙ ap (λ a. applied (view (fresh 0 0)) (add_row_by (view (fresh 0 0)) only_row a).effect) row_added
