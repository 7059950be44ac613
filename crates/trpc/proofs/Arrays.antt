-- What owning a reply tells: its array has twelve bytes. Assumes nothing.
use mathlib.Core.Path.{◌≡◌}
use mathlib.Core.List.{List}
use lib.ListN.{length}
use mir.Val.{Val}
use denote.Laws.{Is}
use Rattle.lists.proofs.Arrays.{array_length}
use Rattle.trpc.specs.declared.replies.Reply.{Reply}
use Rattle.trpc.specs.contracts.replies.Reply.{the_row}

pub reply_array : (r : Reply) (vs : List Val) → Is the_row r vs → length r.bytes ≡ 12
reply_array r vs p = array_length 12 r.bytes _ p.1.1.1.0
