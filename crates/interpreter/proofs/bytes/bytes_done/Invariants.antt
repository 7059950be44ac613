-- `interpreter::bytes::bytes_done` meets its contract: what the bytes so far do.
use Rattle.std.proofs.Common.{take}
use Rattle.interpreter.specs.Done.{Does}
use Rattle.interpreter.specs.Bytes.{bytes_done}
use Rattle.interpreter.proofs.bytes.bytes_done.Given as goal

abbrev pub invariant-loop-place : goal.invariant-loop-place
invariant-loop-place l = Does (bytes_done l.on l.room l.initial.gateway (take l.place l.bytes)) l.gateway l.initial.text l.text
