-- `console::running::run` meets its contract: what is printed are the lines of what is heard.
use Rattle.std.proofs.Common.{◌≡◌, ◌*◌, length}
use Rattle.console.proofs.Hearing.{Heard}
use Rattle.console.proofs.running.run.Given as goal

abbrev pub invariant-loop : goal.invariant-loop
invariant-loop g l = record {
  block_long : length l.block ≡ g.row.BLOCK;
  room_long : length l.initial.room ≡ g.row.BLOCK * g.row.ROOM;
  heard : Heard g.L.Listener.lines l.fn.listener l.listener (g.I.Read.remaining l.initial.input) (g.I.Read.remaining l.input) (g.O.Write.contents l.initial.output) (g.O.Write.contents l.output);
}
