-- What owning a receiver tells: its array has 258 elements, each of them a byte. Assumes nothing.
use Rattle.std.proofs.Common.{◌≡◌, ℕ, ◌<◌, List, length, get_or, w8}
use mir.Val.{Val}
use denote.Laws.{Is}
use denote.Array.{Array}
use denote.Plain.{UInt}
use Rattle.lists.proofs.Arrays.{array_length, array_below}
use Rattle.tpck.specs.declared.receiver.Receiver.{Receiver}
use Rattle.tpck.specs.contracts.receiver.Receiver.{the_row}
use Rattle.tpck.specs.declared.receiver.Received.{Received}
use Rattle.tpck.specs.contracts.receiver.Received as answer

module _ (r : Receiver) (vs : List Val) (p : Is the_row r vs) where
  array : (us : List Val) × Is (Array (UInt w8) 258) r.bytes us
  array = (_, p.1.1.1.1.1.0)

  pub receiver_length : length r.bytes ≡ 258
  receiver_length = array_length 258 r.bytes array.0 array.1

  pub receiver_byte : (i : ℕ) → get_or r.bytes i 0 < 256
  receiver_byte = array_below 258 r.bytes array.0 array.1

-- of what `receive` answers, for its callers
module _ (x : Received) (vs : List Val) (p : Is answer.the_row x vs) where
  next : (us : List Val) × Is the_row x.next us
  next = (_, p.1.1.0)

  pub next_length : length x.next.bytes ≡ 258
  next_length = receiver_length x.next next.0 next.1
