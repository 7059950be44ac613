-- What a line of a script results in (ours: docs/REPLAY.md), and what the code does for it.
use Rattle.std.specs.Prelude.{ℕ, ◌≡◌, Bool, true, false, cond, List, [], length, Result, is_ok}
use Rattle.lists.specs.Overlay.{overlay}
use Rattle.text.specs.declared.place.Text.{Text}
use Rattle.text.specs.Place.{Puts}
use Rattle.gateway.specs.declared.gateway.Gateway.{Gateway}
use Rattle.interpreter.specs.declared.result.BadLine.{BadLine}
use Rattle.interpreter.specs.declared.keeping.Kept.{Kept}

-- (ours) the gateway after the line, the text of its answers, and whether the line is good
pub record Done : Type 0 where
  pub gateway : Gateway
  pub text : List ℕ
  pub good : Bool

-- (ours) a good line
abbrev pub served : Gateway → List ℕ → Done
served g text = record { gateway = g; text = text; good = true }

-- (ours) a bad line: it changes nothing and answers nothing
abbrev pub bad : Gateway → Done
bad g = record { gateway = g; text = []; good = false }

-- (ours) a line is read whole before anything is done: bad where its words are not all good, or one is missing or left over
abbrev pub if_good : Bool → Gateway → Done → Done
if_good good g done = cond good done (bad g)

-- (ours) the code did what a good line does: the gateway after it, and its text behind what was there
abbrev pub Does : Done → Gateway → (before after : Text) → Type 0
Does done g before after = (g ≡ done.gateway) × Puts done.text before after

-- (ours) the code did what a line does, good or bad: the gateway after it, whether the line is good, and its text behind what was there; a
-- bad line leaves the text as it was
pub record Tells (done : Done) (g : Gateway) (before after : Text) (r : Result Unit BadLine) : Type 0 where
  pub gateway : g ≡ done.gateway
  pub good : is_ok r ≡ done.good
  pub text : Puts done.text before after
  pub silent : is_ok r ≡ false → after ≡ before

-- ---- with the bytes kept for a long call

-- (ours) a line as it was run, with bytes kept before it: what it results in; the bytes kept, with those of the line behind them where it
-- adds some; and whether a call has used them up
pub record Ran : Type 0 where
  pub done : Done
  pub gathered : List ℕ
  pub used : Bool

-- (ours) the bytes kept after the line
abbrev pub kept_after : Ran → List ℕ
kept_after x = cond x.used [] x.gathered

-- (ours) a line that leaves what is kept
abbrev pub as_was : List ℕ → Done → Ran
as_was kept done = record { done = done; gathered = kept; used = false }

-- (ours) the code did what a line does, and the store holds the bytes kept at its front: behind them stands what stood there before
pub record Runs (x : Ran) (g : Gateway) (kept stored : Kept) (before after : Text) (r : Result Unit BadLine) : Type 0 where
  pub tells : Tells x.done g before after r
  pub same_store : stored.store.ghost_name ≡ kept.store.ghost_name
  pub count : stored.count ≡ length (kept_after x)
  pub holds : stored.store.now ≡ overlay x.gathered kept.store.now
