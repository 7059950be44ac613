-- How a list of calls may start (document 01, demand 3; document 02, M-112).
use Rattle.std.specs.Prelude.{ℕ, ◌≡◌, List, []}
use Rattle.devices.specs.declared.row.Row.{Row}
use Rattle.devices.specs.Table.{rows_of}
use Rattle.dates.specs.Date.{ValidOrNA}
use Rattle.gateway.specs.declared.gateway.Gateway.{Gateway}
use Rattle.gateway.specs.Lines.{both_fresh}
use Rattle.gateway.specs.View.{view}
use Rattle.transfer.specs.Reading as handover
use Rattle.ledger.specs.Call.{start}
use Rattle.ledger.specs.Demand3.{RowsRight}

-- (01) a list starts with a fresh gateway, (02, M-112) or with the gateway that the reader of a hand-over hands back: the one read,
-- and a fresh one where the bytes are refused
pub data Start : Type 0 where
  fresh : (firmware protocol : ℕ) → Start
  read : (firmware protocol count : ℕ) → (bytes : List ℕ) → Start

-- (01) the gateway with which the list starts
abbrev pub gateway_of : Start → Gateway
gateway_of (fresh firmware protocol) = start firmware protocol
gateway_of (read firmware protocol count bytes) = (handover.read firmware protocol count bytes).gateway

-- (01) the rows that it has then: a fresh one has none, (02, M-112, "rows included") the one read those that were read
abbrev pub rows_at : Start → List Row
rows_at (fresh firmware protocol) = []
rows_at (read firmware protocol count bytes) = rows_of (handover.read firmware protocol count bytes).gateway.table

-- (01; 02, M-112) what every start is: a gateway with fresh receivers and none waiting, with rows that 19, 20 and 21 let in, and
-- with a stored date that is valid or NA. Demand 3 holds from each such gateway
pub record Begins (g : Gateway) (rows : List Row) : Type 0 where
  pub receivers : (view g).receivers ≡ both_fresh
  pub none_waits : (view g).queue ≡ []
  pub table : (view g).table ≡ rows
  pub rows_right : RowsRight rows
  pub date : ValidOrNA (view g).properties.date
