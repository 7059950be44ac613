-- What a record with a date results in (document 01, "DateTime"; document 02, M-101). Proved of every record in proofs/Kept.antt.
use Rattle.std.specs.Prelude.{◌≡◌, true, false, List, ℕ}
use Rattle.dates.specs.Date.{valid, no_date}
use Rattle.trpc.specs.Services.{response_update}
use Rattle.trpc.specs.Methods.{date_time}
use Rattle.trpc.specs.Date.{date_in, date_payload}
use Rattle.trpc.specs.Properties.{properties}
use Rattle.trpc.specs.Replies.{Response, response, record_of}
use Rattle.trpc.specs.declared.properties.Properties.{Properties}

-- (01; 02, M-101) an Update of DateTime with the fields in c, to a gateway with the properties g, and what it results in
pub record DateAnswered (c : List ℕ) (g : Properties) (x : Response) : Type 0 where
  -- (01) a valid date is stored, and comes back in the reply; no other part changes
  pub good : valid (date_in c) ≡ true
      → x ≡ response (properties g.error g.reporting g.firmware g.protocol (date_in c)) (record_of response_update date_time.id (date_payload (date_in c)))
  -- (01; 02, M-101) an impossible date gets NA values, and the stored date stays, with all else
  pub impossible : valid (date_in c) ≡ false → x ≡ response g (record_of response_update date_time.id (date_payload no_date))
