-- `transcript::state::properties_numbers` meets its contract: the array is the list of the ten numbers.
use mathlib.Core.Path.{◌≡◌, refl, ◌∙◌}
use mathlib.Core.Bool.{Bool, true, false}
use mir.Val.{bool_byte}
use Rattle.transcript.specs.State.{flag_number, properties_numbers}
use Rattle.transcript.proofs.state.properties_numbers.Goals as goal

flag : (on : Bool) → bool_byte on ≡ flag_number on
flag true = refl
flag false = refl

pub returns : goal.returns
unfolding properties_numbers
returns c = let p = c.args.properties in
    let reporting : c.from-2.result ≡ flag_number p.reporting = c.from-2.ensures ∙ flag p.reporting in
    cc
