-- A line cut into blocks (document 02, M-100) in demand 3's words: "any cutting of the same line gives the replies, summed counts and
-- final gateway that one byte at a time gives, where no other call on the gateway comes between".
use Rattle.std.specs.Prelude.{ℕ, ◌≤◌, ◌≡◌, List, map, length, take}
use Rattle.lists.specs.Filter.{filter}
use Rattle.tpck.specs.Frame.{sum}
use Rattle.updates.specs.declared.line.Line.{Line}
use Rattle.gateway.specs.declared.gateway.Gateway.{Gateway}
use Rattle.blocks.specs.declared.counts.Counts.{Counts}
use Rattle.blocks.specs.Counts.{counted_numbers}
use Rattle.blocks.specs.Cutting.{Cut, Total, in_blocks}
use Rattle.ledger.specs.Call.{Call, Answer, gateway_after, calls_made}
use Rattle.ledger.specs.Call.Call.{Byte}
use Rattle.ledger.specs.Ledger.{room_needed, is_queued}
use Rattle.ledger.specs.Blocks.{taken_said, times_said, replies_in}

-- (02) "one byte at a time": a byte call for each byte, with a buffer that is lent for it alone
abbrev pub single_calls : Line → (lent : List ℕ) → (bytes : List ℕ) → List Call
single_calls l lent bytes = map (λ b. Byte l b lent) bytes

-- (02) "how often each of the numbers 3 to 16 and queued came up" in some answers; (02, M-102) and the body bytes of all drops
abbrev pub counts_said : List Answer → Counts
counts_said said =
    record {
      numbers = map (λ k. times_said k said) counted_numbers;
      queued = length (filter is_queued said);
      body = sum (map taken_said said);
    }

-- (02) what calls come to: a byte used for each, their replies, their counts, and the gateway after them
abbrev pub total_by : Gateway → List Call → Total
total_by g cs =
    let said = map (λ m. m.answer) (calls_made g cs) in
    record { used = length cs; written = replies_in said; counts = counts_said said; gateway = gateway_after g cs }

-- (02) every cutting of every line, from every gateway: its blocks come to what the byte calls of the bytes that they used come to
abbrev pub CutRight : Gateway → Line → List Cut → (line lent : List ℕ) → Type 0
CutRight g l cuts line lent =
    let x = in_blocks g l cuts line in
    room_needed ≤ length lent → x ≡ total_by g (single_calls l lent (take x.used line))
