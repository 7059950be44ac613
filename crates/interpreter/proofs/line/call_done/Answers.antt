-- `interpreter::line::call_done` meets its contract: an arm for each call.
use Rattle.script.specs.Place.{place}
use Rattle.interpreter.proofs.Gatherings.{runs_as_was, runs_nothing, runs_more}
use Rattle.interpreter.proofs.line.call_done.Goals as goal

pub returns-in-Nothing : goal.returns-in-Nothing
returns-in-Nothing c = rw c.in-Nothing.is (runs_nothing c.args.kept.now c.requires c.args.gateway.now c.args.text.now)

pub returns-in-Gateway : goal.returns-in-Gateway
returns-in-Gateway c = rw c.in-Gateway.is (runs_as_was c.args.kept.now c.requires c.gateway_call.ensures)

pub returns-in-Row : goal.returns-in-Row
returns-in-Row c = rw c.in-Row.is (runs_as_was c.args.kept.now c.requires c.row_call.ensures)

pub returns-in-Byte : goal.returns-in-Byte
returns-in-Byte c = rw c.in-Byte.is (runs_as_was c.args.kept.now c.requires c.byte_call.ensures)

pub returns-in-Tick : goal.returns-in-Tick
returns-in-Tick c = rw c.in-Tick.is (runs_as_was c.args.kept.now c.requires c.tick_call.ensures)

pub returns-in-Turn : goal.returns-in-Turn
returns-in-Turn c = rw c.in-Turn.is (runs_as_was c.args.kept.now c.requires c.turn_call.ensures)

pub returns-in-Head : goal.returns-in-Head
returns-in-Head c = rw c.in-Head.is (runs_as_was c.args.kept.now c.requires c.head_call.ensures)

pub returns-in-Error : goal.returns-in-Error
returns-in-Error c = rw c.in-Error.is (runs_as_was c.args.kept.now c.requires c.error_call.ensures)

pub returns-in-Write : goal.returns-in-Write
returns-in-Write c = rw c.in-Write.is (runs_as_was c.args.kept.now c.requires c.write_call.ensures)

pub returns-in-Dump : goal.returns-in-Dump
returns-in-Dump c = rw c.in-Dump.is (runs_as_was c.args.kept.now c.requires c.dump_call.ensures)

pub returns-in-Date : goal.returns-in-Date
returns-in-Date c = rw c.in-Date.is (runs_as_was c.args.kept.now c.requires c.date_call.ensures)

pub returns-in-Plant : goal.returns-in-Plant
returns-in-Plant c = rw c.in-Plant.is (runs_as_was c.args.kept.now c.requires c.plant_call.ensures)

pub returns-in-Hand : goal.returns-in-Hand
returns-in-Hand c = rw c.in-Hand.is (runs_as_was c.args.kept.now c.requires c.hand_call.ensures)

pub returns-in-Read : goal.returns-in-Read
returns-in-Read c = rw c.in-Read.is c.handover_call.ensures

pub returns-in-Block : goal.returns-in-Block
returns-in-Block c = rw c.in-Block.is c.block_call.ensures

pub returns-in-More : goal.returns-in-More
returns-in-More c = rw c.in-More.is (runs_more c.args.gateway.now c.args.text.now c.args.words.line.now (place c.args.words) c.gather.ensures)
