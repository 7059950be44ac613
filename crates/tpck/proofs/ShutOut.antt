-- Three wrong receivers that the sentences of document 01 shut out, whatever else they do: in each the receiver is given, and the byte,
-- and what must hold of every outcome that is explained. must-fail/ tries the same three in definition and code. Assumes nothing.
use Rattle.std.proofs.Common.{◌≡◌, true, false, [], ◌∷◌, ap}
use Rattle.tpck.specs.Event.{Told}
use Rattle.tpck.specs.Frame.{sof, esc}
use Rattle.tpck.specs.Receive.{State, step}
use Rattle.tpck.specs.Line.{opened}
use Rattle.tpck.specs.Explained.{Explained}
use Rattle.tpck.proofs.OneOutcome.{only_explained}

-- a full body, 00 06 06, then 0x2F: the packet stays open, so the byte after it gives a 5 (01_escape_becomes_pending_nothing_else)
pub full_body_stays : {t : Told} {u : State} → Explained (opened (0x00 ∷ 0x06 ∷ 0x06 ∷ [])) esc t u → u.inside ≡ true
unfolding step
full_body_stays x = ap (λ (u : State). u.inside) (only_explained (opened (0x00 ∷ 0x06 ∷ 0x06 ∷ [])) esc x).next

-- 00 07, then 08, which can't be the checksum: the packet stays open, so EOF gives a 6 (01_wrong_checksum_is_6_at_eof)
pub wrong_sum_stays : {t : Told} {u : State} → Explained (opened (0x00 ∷ 0x07 ∷ [])) 0x08 t u → u.inside ≡ true
unfolding step
wrong_sum_stays x = ap (λ (u : State). u.inside) (only_explained (opened (0x00 ∷ 0x07 ∷ [])) 0x08 x).next

-- hunting with an escape pending and the body of the last frame: CA does not open a packet (01_byte_after_an_escape_is_plain_data)
abbrev escaped_hunting : State
escaped_hunting = record { inside = false; escaped = true; body = 0x00 ∷ 0x06 ∷ 0x06 ∷ [] }

pub escaped_start_skipped : {t : Told} {u : State} → Explained escaped_hunting sof t u → u.inside ≡ false
unfolding step
escaped_start_skipped x = ap (λ (u : State). u.inside) (only_explained escaped_hunting sof x).next
