-- A line cut into blocks, as C reads it: through `tha_block` it gives what one `tha_byte` at a time gives. Assumes nothing.
use Prim.Native.Nat.{ℕ}
use mathlib.Core.Path.{◌≡◌, refl, sym, ap, ◌∙◌, subst}
use mathlib.Core.List.{List, [], ◌∷◌}
use lib.ListN.{length, take, drop, length-map}
use Rattle.updates.specs.Line.{line_of}
use Rattle.gateway.specs.declared.gateway.Gateway.{Gateway}
use Rattle.blocks.specs.Block.{block, used_in}
use Rattle.blocks.specs.Cutting.{Cut, Total, area_after, and_then, in_blocks}
use Rattle.ledger.specs.Call.{Call}
use Rattle.ledger.specs.Blocks.{replies_in}
use Rattle.ledger.specs.Cuts.{single_calls, counts_said, total_by}
use Rattle.ledger.proofs.Cuts.{cut_right}
use Rattle.capi.specs.Host.{HostCall, as_call}
use Rattle.capi.specs.Cuts.{host_blocks, host_singles, host_total, CutRead}
use Rattle.capi.proofs.Reading.{as_calls, after_is}
use Rattle.capi.proofs.Blocks.{said_by_lem}

-- what C reads after calls is what they come to in demand 3's words
total_is : (g : Gateway) (cs : List HostCall) → host_total g cs ≡ total_by g (as_calls cs)
total_is g cs =
    let said = said_by_lem g cs in
    let used = sym (length-map cs as_call) in
    λ i. record { used = used i; written = replies_in (said i); counts = counts_said (said i); gateway = after_is g cs i }

module _ (l : ℕ) where
  singles_are : (lent bs : List ℕ) → as_calls (host_singles l lent bs) ≡ single_calls (line_of l) lent bs
  singles_are lent [] = refl
  singles_are lent (b ∷ bs) = ap (λ (cs : List Call). Call.Byte (line_of l) b lent ∷ cs) (singles_are lent bs)

  blocks_are : (g : Gateway) (cuts : List Cut) (line : List ℕ) → host_blocks g l cuts line ≡ in_blocks g (line_of l) cuts line
  unfolding host_blocks in_blocks
  blocks_are g [] line = refl
  blocks_are g (c ∷ cs) line =
      let bytes = take c.size line in
      let r = block g (line_of l) bytes (length c.area) in
      let left = area_after g (line_of l) bytes c.area in
      ap (λ (rest : Total). and_then r left rest) (blocks_are r.gateway cs (drop (used_in r.answer) line))

-- every cutting through `tha_block` gives what one `tha_byte` at a time gives
pub cut_read : (g : Gateway) (l : ℕ) (cuts : List Cut) (line lent : List ℕ) → CutRead g l cuts line lent
cut_read g l cuts line lent long =
    let x = in_blocks g (line_of l) cuts line in
    let cs = host_singles l lent (take x.used line) in
    let single : host_total g cs ≡ _ = total_is g cs ∙ ap (total_by g) (singles_are l lent (take x.used line)) in
    subst (λ (t : Total). t ≡ host_total g (host_singles l lent (take t.used line))) (sym (blocks_are l g cuts line))
    (cut_right g (line_of l) cuts line lent long ∙ sym single)
