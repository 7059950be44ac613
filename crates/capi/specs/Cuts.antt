-- A line cut into blocks (document 02, M-100), as C reads it: "any cutting of the same line gives the replies, summed counts and
-- final gateway that one byte at a time gives, where no other call on the gateway comes between".
use Rattle.std.specs.Prelude.{ℕ, ◌+◌, ◌≤◌, ◌≡◌, List, [], ◌∷◌, ◌++◌, map, length, take, drop}
use Rattle.gateway.specs.declared.gateway.Gateway.{Gateway}
use Rattle.blocks.specs.Counts.{counted}
use Rattle.blocks.specs.Cutting.{Cut, Total, summed}
use Rattle.ledger.specs.Ledger.{room_needed}
use Rattle.ledger.specs.Blocks.{replies_in}
use Rattle.ledger.specs.Cuts.{counts_said}
use Rattle.capi.specs.Calls as call
use Rattle.capi.specs.Host.{HostCall, host_after, host_made}
use Rattle.capi.specs.Host.HostCall.{Byte}
use Rattle.capi.specs.Blocks.{said_by}

-- (02) a `tha_block` in front of those that carry on after it
abbrev pub host_then : call.LentArea → Total → Total
host_then x rest =
    record {
      used = x.blocked.used + rest.used;
      written = take x.blocked.written x.area ++ rest.written;
      counts = summed x.blocked.counts rest.counts;
      gateway = rest.gateway;
    }

-- (02) the blocks one after another, each carrying on at the bytes not yet used; a block that is refused uses none
unfoldable pub host_blocks : Gateway → (l : ℕ) → List Cut → (line : List ℕ) → Total
host_blocks g l [] line = record { used = 0; written = []; counts = counted []; gateway = g }
host_blocks g l (c ∷ cs) line =
    let x = call.block g l (take c.size line) c.area in
    host_then x (host_blocks x.blocked.gateway l cs (drop x.blocked.used line))

-- (02) "one byte at a time": a `tha_byte` for each byte, with a buffer that is lent for it alone
abbrev pub host_singles : (l : ℕ) → (lent : List ℕ) → (bytes : List ℕ) → List HostCall
host_singles l lent bytes = map (λ b. Byte l b lent) bytes

-- (02) what C reads after calls: a byte used for each, their replies, their counts, and the gateway after them
abbrev pub host_total : Gateway → List HostCall → Total
host_total g cs =
    let said = said_by (host_made g cs) in
    record { used = length cs; written = replies_in said; counts = counts_said said; gateway = host_after g cs }

-- (02) every cutting of every line, from every gateway: its blocks come to what the byte calls of the bytes that they used come to
abbrev pub CutRead : Gateway → (l : ℕ) → List Cut → (line lent : List ℕ) → Type 0
CutRead g l cuts line lent =
    let x = host_blocks g l cuts line in
    room_needed ≤ length lent → x ≡ host_total g (host_singles l lent (take x.used line))
