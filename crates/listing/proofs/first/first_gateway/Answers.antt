-- `listing::first::first_gateway` meets its contract: the row keeps the rules, so it is added.
use Rattle.std.proofs.Common.{ap, ◌∙◌}
use Rattle.gateway.specs.declared.gateway.Added.{Added}
use Rattle.gateway.specs.View.{view}
use Rattle.listing.proofs.RowAdded.{first_added}
use Rattle.listing.proofs.first.first_gateway.Goals as goal

pub returns : goal.returns
returns c = let x = c.add in
    let y = c.only_row in
    let z = c.fresh in
    ap (λ (a : Added). view a.gateway) x.ensures ∙ rw (z.ensures, y.ensures) first_added
