-- `interpreter::ticks::ticks_done` meets its contract: what the ticks so far do.
use Rattle.interpreter.specs.Done.{Does}
use Rattle.interpreter.specs.Ticks.{ticks_done}
use Rattle.interpreter.proofs.ticks.ticks_done.Given as goal

abbrev pub invariant-loop-i : goal.invariant-loop-i
invariant-loop-i l = Does (ticks_done l.i l.initial.gateway) l.gateway l.initial.text l.text
