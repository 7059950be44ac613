-- What the gateway itself holds besides table and queue, and what a record changes of it.
use Rattle.std.specs.Prelude.{ℕ, List, Bool, false, cond, leb, eqb}
use Rattle.trpc.specs.Bytes.{byte_at}
use Rattle.trpc.specs.Services.{is_update}
use Rattle.dates.specs.declared.date.Date.{Date}
use Rattle.dates.specs.Date.{valid_or, no_date}
use Rattle.trpc.specs.Date.{date_in}
use Rattle.trpc.specs.declared.properties.Properties.{Properties}
use Rattle.trpc.specs.declared.methods.OnUpdate.{OnUpdate}
use Rattle.trpc.specs.declared.methods.OnUpdate.TheVariants.{NotUsed, RepliesCurrent, SetsReporting, SetsDate, Queues}

-- (01) the properties by their parts: network error, reporting, firmware and protocol numbers, stored date
abbrev pub properties : ℕ → Bool → ℕ → ℕ → Date → Properties
properties e r f p d = record { error = e; reporting = r; firmware = f; protocol = p; date = d }

-- (01) at the start: no error, no reporting, no date; firmware and protocol numbers as the owner gives them
unfoldable pub fresh : ℕ → ℕ → Properties
fresh f p = properties 0 false f p no_date

-- (01) the owner sets the network error
unfoldable pub with_error : Properties → ℕ → Properties
with_error g e = properties e g.reporting g.firmware g.protocol g.date

-- (01) 0 or 1 is set; with any other value reporting stays (ours, D-23)
unfoldable pub with_reporting : Properties → ℕ → Properties
with_reporting g v = properties g.error (cond (leb v 1) (eqb v 1) g.reporting) g.firmware g.protocol g.date

-- (01) a valid date is stored; with any other the stored one stays
unfoldable pub with_date : Properties → Date → Properties
with_date g d = properties g.error g.reporting g.firmware g.protocol (valid_or d g.date)

-- (02, M-101) the owner's check: a stored date that is neither valid nor NA becomes NA; no other part changes
unfoldable pub with_checked_date : Properties → Properties
with_checked_date g = properties g.error g.reporting g.firmware g.protocol (valid_or g.date no_date)

-- (01) after an Update, by what it does
unfoldable pub updated : Properties → OnUpdate → List ℕ → Properties
updated g NotUsed c = g
updated g RepliesCurrent c = g
updated g SetsReporting c = with_reporting g (byte_at c 5)
updated g SetsDate c = with_date g (date_in c)
updated g Queues c = g

-- (01) after a record: only an Update changes anything
unfoldable pub after_record : Properties → OnUpdate → List ℕ → Properties
after_record g u c = cond (is_update (byte_at c 0)) (updated g u c) g
