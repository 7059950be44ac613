-- The long calls, and the bytes kept for them (ours: docs/REPLAY.md).
use Rattle.std.specs.Prelude.{ℕ, ◌≡◌, Bool, true, false, cond, ◌&&◌, List, [], ◌++◌, leb, length, take, Result, is_ok}
use Rattle.lists.specs.Overlay.{overlay}
use Rattle.updates.specs.declared.line.Line.{Line}
use Rattle.gateway.specs.declared.gateway.Gateway.{Gateway}
use Rattle.blocks.specs.Block.{block, feed_of}
use Rattle.transfer.specs.declared.reader.Handover.{Handover}
use Rattle.transfer.specs.Reading.{read}
use Rattle.script.specs.Place.{Place}
use Rattle.script.specs.Reading.{read_number, read_bytes, bytes_after}
use Rattle.script.specs.Arguments.{read_line}
use Rattle.transcript.specs.Answers.{read_answer_text}
use Rattle.transcript.specs.Tallies.{block_answer_text}
use Rattle.interpreter.specs.declared.result.BadLine.{BadLine}
use Rattle.interpreter.specs.declared.keeping.Kept.{Kept}
use Rattle.interpreter.specs.Limits.{longest, most_area}
use Rattle.interpreter.specs.Done.{Done, served, if_good, Ran}
use Rattle.interpreter.specs.Bytes.{lent}

-- ---- the bytes kept

-- (ours) the bytes kept at the front of a store
abbrev pub held : Kept → List ℕ
held k = take k.count k.store.now

-- (ours) the bytes kept, with those of the line behind them; only those kept before where the line is bad
pub record Gathering : Type 0 where
  pub bytes : List ℕ
  pub good : Bool

-- (ours) the bytes that a line lists from a place on
abbrev pub listed : List ℕ → Place → List ℕ
listed l c = take longest (bytes_after l c)

-- (ours) every word after a place writes a byte, and with those kept they are at most `most`
abbrev pub all_fit : (most : ℕ) → (kept : List ℕ) → List ℕ → Place → Bool
all_fit most kept l c = is_ok (read_bytes longest l c) && leb (length (kept ++ listed l c)) most

-- (ours) by that
abbrev pub gathered_if : Bool → (kept bytes : List ℕ) → Gathering
gathered_if good kept bytes = cond good (record { bytes = kept ++ bytes; good = true }) (record { bytes = kept; good = false })

-- (ours) the bytes kept and then those of the line, at most `most` together
unfoldable pub gathering : (most : ℕ) → (kept : List ℕ) → List ℕ → Place → Gathering
gathering most kept l c = gathered_if (all_fit most kept l c) kept (listed l c)

-- (ours) the code gathered them, and the store holds them at its front
pub record Gathers (x : Gathering) (kept stored : Kept) (r : Result Unit BadLine) : Type 0 where
  pub good : is_ok r ≡ x.good
  pub same_store : stored.store.ghost_name ≡ kept.store.ghost_name
  pub count : stored.count ≡ length x.bytes
  pub holds : stored.store.now ≡ overlay x.bytes kept.store.now

-- (ours) a call with the bytes gathered: they are gone afterwards, but for a bad line
abbrev pub using_up : Gathering → Gateway → Done → Ran
using_up x g done = record { done = if_good x.good g done; gathered = x.bytes; used = x.good }

-- ---- the calls

-- (02, M-100) more BYTE BYTE ..
unfoldable pub more_call : Gateway → (most : ℕ) → (kept : List ℕ) → List ℕ → Place → Ran
more_call g most kept l c =
    let x = gathering most kept l c in
    record { done = record { gateway = g; text = []; good = x.good }; gathered = x.bytes; used = false }

-- (02, M-100) a block; its replies are laid over the area that was lent
unfoldable pub block_done : Line → (room : ℕ) → Gateway → List ℕ → Done
block_done on room g bytes =
    let x = block g on bytes room in
    served x.gateway (block_answer_text x.answer x.counts (overlay (feed_of g on bytes room).replies (lent room)))

-- (02, M-100) block [LINE] AREA BYTE BYTE ..
unfoldable pub block_call : Gateway → (most : ℕ) → (kept : List ℕ) → List ℕ → Place → Ran
block_call g most kept l c =
    let on = read_line l c in
    let area = read_number most_area l on.next in
    let x = gathering most kept l area.next in
    using_up x g (block_done on.value area.value g x.bytes)

-- (ours) the gateway read, or the fresh one where the hand-over is refused
abbrev pub read_done : Handover → Done
read_done x = served x.gateway (read_answer_text x.answer)

-- (ours) read FIRMWARE PROTOCOL COUNT BYTE BYTE ..
unfoldable pub handover_call : Gateway → (most : ℕ) → (kept : List ℕ) → List ℕ → Place → Ran
handover_call g most kept l c =
    let firmware = read_number 65535 l c in
    let protocol = read_number 65535 l firmware.next in
    let count = read_number 65535 l protocol.next in
    let x = gathering most kept l count.next in
    using_up x g (read_done (read firmware.value protocol.value count.value x.bytes))
