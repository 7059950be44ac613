-- What the code did for a line, good or bad. Assumes nothing.
use Rattle.std.proofs.Common.{◌≡◌, Bool, true, false, Result, is_ok, refl, sym, ◌∙◌}
use Rattle.text.specs.declared.place.Text.{Text}
use Rattle.text.proofs.Places.{puts_nothing}
use Rattle.gateway.specs.declared.gateway.Gateway.{Gateway}
use Rattle.interpreter.specs.declared.result.BadLine.{BadLine}
use Rattle.interpreter.specs.Done.{Done, if_good, Does, Tells}

-- a line that is bad
pub tells_bad : (t : Bool) (g : Gateway) (d : Done) (text : Text) (r : Result Unit BadLine) → t ≡ false → is_ok r ≡ false → Tells (if_good t g d) g text text r
tells_bad t g d text r spoilt refused = rw spoilt (record { gateway = refl; good = refused; text = puts_nothing text; silent = λ _. refl })

-- one that is good
pub tells_good : (t : Bool) (g : Gateway) (d : Done) (k : Gateway) (before after : Text) (r : Result Unit BadLine) → t ≡ true → d.good ≡ true → is_ok r ≡ true
    → Does d k before after → Tells (if_good t g d) k before after r
tells_good t g d k before after r whole good taken does = rw whole (record { gateway = does.0; good = taken ∙ sym good; text = does.1; silent = λ e. absurd cc })
