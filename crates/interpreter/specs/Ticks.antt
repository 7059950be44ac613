-- The ticks of a `tick` line (ours: docs/REPLAY.md).
use Rattle.std.specs.Prelude.{ℕ, zero, suc, List, [], ◌++◌}
use Rattle.gateway.specs.declared.gateway.Gateway.{Gateway}
use Rattle.gateway.specs.View.{view}
use Rattle.gateway.specs.Calls.{tick}
use Rattle.gateway.specs.Results.{ticking}
use Rattle.transcript.specs.Answers.{tick_answer_text, list_of}
use Rattle.interpreter.specs.Done.{Done, served}

-- (ours) the gateway after a tick
abbrev pub ticked : Gateway → Gateway
ticked g = (ticking g (tick (view g))).gateway

-- (ours) what is printed of the tick at a place of the line
abbrev pub tick_said : ℕ → Gateway → List ℕ
tick_said place g = tick_answer_text place (list_of (ticking g (tick (view g))).fields)

-- (ours) the gateway after n ticks
unfoldable pub after_ticks : ℕ → Gateway → Gateway
after_ticks zero g = g
after_ticks (suc n) g = ticked (after_ticks n g)

-- (ours) what is printed of n ticks, their places counted from 1
unfoldable pub ticks_said : ℕ → Gateway → List ℕ
ticks_said zero g = []
ticks_said (suc n) g = ticks_said n g ++ tick_said (suc n) (after_ticks n g)

-- (ours) n ticks
unfoldable pub ticks_done : ℕ → Gateway → Done
ticks_done n g = served (after_ticks n g) (ticks_said n g)
