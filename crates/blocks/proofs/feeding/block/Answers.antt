-- `blocks::feeding::block` meets its contract: refused, no byte, or the bytes up to 4,096.
use mathlib.Core.Path.{sym, ap, ◌∙◌}
use Rattle.std.specs.Prelude.{Err}
use Rattle.blocks.specs.declared.counts.Counts.{Counts}
use Rattle.blocks.specs.declared.answers.Blocked.{Blocked}
use Rattle.blocks.specs.declared.answers.BlockRefusal.TheVariants.{Short}
use Rattle.blocks.specs.Block.{used}
use Rattle.blocks.proofs.Blocks.{short_told, none_told, fed_told}
use Rattle.blocks.proofs.feeding.block.Goals as goal

pub returns-then-area-lt-ROOM : goal.returns-then-area-lt-ROOM
returns-then-area-lt-ROOM c = let a = c.args in
    let is = ap {B = Blocked} (λ (x : Counts). record { gateway = a.gateway; answer = Err Short; counts = x }) c.none.ensures in
    let told = short_told a.gateway a.line a.bytes.now a.area.now c.if-area-lt-ROOM.true _ is in
    record { blocked = told.0; area = told.1 }

pub returns-then-end-eq0 : goal.returns-then-end-eq0
returns-then-end-eq0 c = let a = c.args in
    let is = ap {B = Blocked} (λ (x : Counts). record { gateway = a.gateway; answer = used 0 0; counts = x }) c.none-then-end-eq0.ensures in
    let told = none_told a.gateway a.line a.bytes.now a.area.now c.if-area-lt-ROOM.false (sym c.min-end.ensures ∙ c.if-end-eq0.true) _ is in
    record { blocked = told.0; area = told.1 }

pub returns : goal.returns
returns c = let a = c.args in
    let told = fed_told a.gateway a.line a.bytes.now a.area.now c.if-area-lt-ROOM.false _ c.min-end.ensures _ _ (c.feed.ensures.blocked, c.feed.ensures.area) in
    record { blocked = told.0; area = told.1 }
