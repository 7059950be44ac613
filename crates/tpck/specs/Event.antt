-- What a byte does at the packet layer, in document 01's numbers and values.
use Rattle.std.specs.Prelude.{ℕ, Bool, ◌&&◌, List, take, drop, nat_le}
use Rattle.tpck.specs.declared.event.Drop.{Drop}
use Rattle.tpck.specs.declared.event.Drop.TheVariants.{Restarted, Early, TooLong, Checksum}
use Rattle.tpck.specs.declared.event.Event.{Event}
use Rattle.tpck.specs.declared.event.Event.TheVariants.{Nothing, Dropped, Frame}

-- (01) the number of each drop
abbrev pub drop_number : Drop → ℕ
drop_number Restarted = 3
drop_number Early = 4
drop_number TooLong = 5
drop_number Checksum = 6

-- (01) whether a number is that of a drop: 3 to 6
abbrev pub is_drop : ℕ → Bool
is_drop n = nat_le 3 n && nat_le n 6

-- (01) what a byte did: nothing, a drop with its number, or a frame with its type and data; (02, M-102) a drop also with the number of
-- body bytes taken since its SOF
pub data Told : Type 0 where
  nothing : Told
  drop_with : (number taken : ℕ) → Told
  frame_of : ℕ → List ℕ → Told

-- (01) an event in these words; the data of a frame stand in the body, after Length and Type
abbrev pub told : Event → List ℕ → Told
told Nothing body = nothing
told (Dropped d n) body = drop_with (drop_number d) n
told (Frame ptype size) body = frame_of ptype (take size (drop 2 body))
