-- `dates::calendar::common_days` meets its contract: the table at the place before the month's number, where there is one.
use Rattle.std.proofs.Common.{◌≡◌, ◌∙◌, ap, sym, arith, rules, unwrap_or, slice_get}
use Rattle.std.specs.Option.{option_copied}
use Rattle.std.proofs.lemmas.Option.{unwrap_or-slice_get}
use Rattle.dates.specs.Calendar.{month_days}
use Rattle.dates.proofs.Months.{common_at}
use Rattle.dates.proofs.calendar.common_days.Goals as goal

pub returns-in-Some : goal.returns-in-Some
returns-in-Some c =
    let read : option_copied c.get.result ≡ slice_get month_days c.in-Some.place = search rules in
    c.unwrap_or.ensures ∙ ap (λ o. unwrap_or o 0) (c.copied.ensures ∙ read) ∙ unwrap_or-slice_get month_days c.in-Some.place 0 ∙ sym (common_at c.args.month c.in-Some.place (omega arith) (omega arith))
