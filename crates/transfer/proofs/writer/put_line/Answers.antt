-- `transfer::writer::put_line` meets its contract: the content at the place in a frame, or nothing past the last.
use mathlib.Core.Path.{sym, ap, ◌∙◌}
use mathlib.Core.List.{List, []}
use Prim.Native.Nat.{ℕ, ◌+◌, ◌*◌, ◌<◌}
use native.Mathlib.Omega.{arith}
use lib.ListN.{length, get_or}
use Rattle.lists.specs.Overlay.{overlay}
use Rattle.lists.proofs.Overlays.{overlay_nil}
use Rattle.lists.proofs.Refills.{list_most}
use Rattle.devices.specs.Table.{rows_of}
use Rattle.devices.proofs.Arrays.{table_length}
use Rattle.devices.proofs.Rows.{table_counted}
use Rattle.gateway.proofs.Replies.{sent_length, sent_left}
use Rattle.transfer.specs.Contents.{contents}
use Rattle.transfer.proofs.Placing.{line_within, line_past, content_short}
use Rattle.transfer.proofs.writer.put_line.Goals as goal

pub overflow_mul-used : goal.overflow_mul-used
overflow_mul-used c = omega (arith, c.used.ensures, list_most table_counted c.args.table 32 (table_length c.args.table _ c.well_formed.1.0))

pub overflow_add-used : goal.overflow_add-used
overflow_add-used c = omega (arith, c.used.ensures, list_most table_counted c.args.table 32 (table_length c.args.table _ c.well_formed.1.0))

pub returns-then-used-place : goal.returns-then-used-place
returns-then-used-place c =
    let past = line_past c.args.properties (rows_of c.args.table) c.args.place (omega (arith, c.if-used-place.true, c.used.ensures)) in
    record { length = rw past; buffer = rw past (sym (overlay_nil c.args.buffer.now)) }

pub content_at-requires : goal.content_at-requires
content_at-requires c = omega (arith, c.if-used-place.false, c.used.ensures)

pub returns : goal.returns
returns c =
    let near : c.args.place < 5 + 26 * length (rows_of c.args.table) = omega (arith, c.if-used-place.false, c.used.ensures) in
    let content = get_or (contents c.args.properties (rows_of c.args.table)) c.args.place [] in
    let few = content_short c.args.properties (rows_of c.args.table) c.args.place near in
    let line = line_within c.args.properties (rows_of c.args.table) c.args.place near in
    record {
      length = c.send.ensures.answer ∙ sent_length content few _ c.content_at.ensures c.args.buffer.now c.requires ∙ ap length (sym line);
      buffer = c.send.ensures.buffer ∙ sent_left content few _ c.content_at.ensures c.args.buffer.now c.requires ∙ ap (λ (l : List ℕ). overlay l c.args.buffer.now) (sym line);
    }
