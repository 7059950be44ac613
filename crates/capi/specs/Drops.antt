-- How far a dropped packet got (document 02, M-102), as C reads it.
use Rattle.std.specs.Prelude.{ℕ, ◌≡◌, cond, List, length}
use Rattle.tpck.specs.Event.{is_drop}
use Rattle.updates.specs.Line.{line_of}
use Rattle.gateway.specs.declared.gateway.Gateway.{Gateway}
use Rattle.gateway.specs.Lines.{receiver_of}
use Rattle.gateway.specs.View.{view}
use Rattle.capi.specs.Calls as call

-- (02, M-102) after a byte that is refused, outcome 1, the count is the length that the line's body has just before the byte, where
-- the number is a drop's; (ours, D-101) else 0
abbrev pub DropRead : Gateway → (l b : ℕ) → (lent : List ℕ) → Type 0
DropRead g l b lent =
    let a = (call.byte g l b lent).result.answer in
    a.outcome ≡ 1 → a.count ≡ cond (is_drop a.number) (length (receiver_of (view g).receivers (line_of l)).body) 0
