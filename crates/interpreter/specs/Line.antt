-- A line of a script (ours: docs/REPLAY.md): an empty line, a comment, a call, or a bad line.
use Rattle.std.specs.Prelude.{ℕ, List, [], length, take, Option, Some, None}
use Rattle.gateway.specs.declared.gateway.Gateway.{Gateway}
use Rattle.script.specs.Place.{Place}
use Rattle.script.specs.declared.names.Call.{Call}
use Rattle.script.specs.declared.names.Call.TheVariants as call
use Rattle.script.specs.Names.{read_call}
use Rattle.interpreter.specs.Done.{served, bad, Ran, as_was}
use Rattle.interpreter.specs.Calls.{gateway_call, row_call, byte_call, tick_call, turn_call, head_call, error_call, write_call, dump_call, date_call, plant_call, hand_call}
use Rattle.interpreter.specs.Keeping.{more_call, block_call, handover_call}

-- (ours) the call that a line's first word names, with the words after it; a long call takes the bytes kept
abbrev pub call_done : Option Call → Gateway → (most : ℕ) → (kept : List ℕ) → List ℕ → Place → Ran
call_done (Some call.Nothing) g most kept l c = as_was kept (served g [])
call_done (Some call.Gateway) g most kept l c = as_was kept (gateway_call g l c)
call_done (Some call.Row) g most kept l c = as_was kept (row_call g l c)
call_done (Some call.Byte) g most kept l c = as_was kept (byte_call g l c)
call_done (Some call.Tick) g most kept l c = as_was kept (tick_call g l c)
call_done (Some call.Turn) g most kept l c = as_was kept (turn_call g l c)
call_done (Some call.Head) g most kept l c = as_was kept (head_call g l c)
call_done (Some call.Error) g most kept l c = as_was kept (error_call g l c)
call_done (Some call.Write) g most kept l c = as_was kept (write_call g l c)
call_done (Some call.Dump) g most kept l c = as_was kept (dump_call g l c)
call_done (Some call.Date) g most kept l c = as_was kept (date_call g l c)
call_done (Some call.Plant) g most kept l c = as_was kept (plant_call g l c)
call_done (Some call.Hand) g most kept l c = as_was kept (hand_call g l c)
call_done (Some call.Read) g most kept l c = handover_call g most kept l c
call_done (Some call.Block) g most kept l c = block_call g most kept l c
call_done (Some call.More) g most kept l c = more_call g most kept l c
call_done None g most kept l c = as_was kept (bad g)

-- (ours) what a line results in, with bytes kept before it; at most `most` are kept
unfoldable pub run_line : Gateway → (most : ℕ) → (kept : List ℕ) → List ℕ → Ran
run_line g most kept l = call_done (read_call l).value g most kept l (read_call l).next

-- (ours) where so many bytes at the front of a store are kept, all of it where it has fewer; at most as many as it has room for
abbrev pub line_run : Gateway → List ℕ → (kept : ℕ) → (store : List ℕ) → Ran
line_run g l kept store = run_line g (length store) (take kept store) l
