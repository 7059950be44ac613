-- On which tick Reports become due, and what setting reporting does. Assumes nothing.
use Prim.Native.Nat.{ℕ, zero, suc, ◌%◌, ◌≤◌}
use mathlib.Core.Path.{◌≡◌, refl, sym, ap, ◌∙◌}
use mathlib.Core.Bool.{Bool, true, false, cond}
use mathlib.Core.List.{List, [], ◌∷◌}
use native.Mathlib.Omega.{arith}
use borrow.Author.Tests.{ltb-true, ltb-false, lt-ltb, le-ltb}
use lib.Dec.{ltb}
use lib.ListN.{length}
use Rattle.devices.specs.declared.row.Row.{Row}
use Rattle.reports.specs.declared.due.Report.{Report}
use Rattle.reports.specs.declared.due.DueReports.{DueReports}
use Rattle.reports.specs.Due.{reports_of, held, fresh_due, minute_reports, or_else, ticked, enabled}
use Rattle.reports.specs.Minute.{none, ticks, TicksRight, SettingRight}
use Rattle.reports.proofs.Holding.{Ranged}
use Rattle.reports.proofs.Lists.{after_tick, ticked_minute, ticked_lists, ticked_ranged, fresh_lists, fresh_ranged}

fresh_none : fresh_due ≡ none
unfolding fresh_due held
fresh_none = refl

-- ---- on which tick

module _ (e : ℕ) (t : List Row) (few : length t ≤ 32) where
  abbrev made : List Report
  made = minute_reports e t

  -- what holds after n ticks
  record After (n : ℕ) (d : DueReports) : Type 0 where
    ranged : Ranged d
    minute : d.minute ≡ n % 60
    lists : reports_of d ≡ cond (ltb n 60) [] made

  start : After 0 none
  unfolding fresh_due held
  start = record { ranged = fresh_ranged; minute = refl; lists = fresh_lists }

  or_self : (l : List Report) → or_else l l ≡ l
  or_self [] = refl
  or_self (x ∷ l) = refl

  module _ (n : ℕ) (d : DueReports) (a : After n d) where
    next_minute : (b : Bool) → ltb d.minute 59 ≡ b → cond b (suc d.minute) 0 ≡ suc n % 60
    next_minute true h = omega (arith, ltb-true d.minute 59 h, a.minute)
    next_minute false h = omega (arith, ltb-false d.minute 59 h, a.minute)

    -- before the sixtieth tick, and from there on
    same_side : (b : Bool) → ltb n 60 ≡ b → ltb d.minute 59 ≡ true → ltb (suc n) 60 ≡ b
    same_side true h m = lt-ltb (suc n) 60 (omega (arith, ltb-true n 60 h, ltb-true d.minute 59 m, a.minute))
    same_side false h m = le-ltb (suc n) 60 (omega (arith, ltb-false n 60 h))

    past : ltb d.minute 59 ≡ false → ltb (suc n) 60 ≡ false
    past m = le-ltb (suc n) 60 (omega (arith, ltb-false d.minute 59 m, a.minute))

    or_made : (b : Bool) → or_else (cond b [] made) made ≡ made
    or_made true = refl
    or_made false = or_self made

    next_lists : (b : Bool) → ltb d.minute 59 ≡ b → after_tick d a.ranged true b e t ≡ cond (ltb (suc n) 60) [] made
    next_lists true m = a.lists ∙ ap (λ (b : Bool). cond b [] made) (sym (same_side (ltb n 60) refl m))
    next_lists false m =
        ap (λ (l : List Report). or_else l made) a.lists ∙ or_made (ltb n 60) ∙ ap (λ (b : Bool). cond b [] made) (sym (past m))

    next : After (suc n) (ticked true e t d)
    next =
        record {
          ranged = ticked_ranged d a.ranged e t few true;
          minute = ticked_minute e t d ∙ next_minute (ltb d.minute 59) refl;
          lists = ticked_lists d a.ranged e t few true ∙ next_lists (ltb d.minute 59) refl;
        }

  after : (n : ℕ) → After n (ticks n e t)
  unfolding ticks
  after zero = start
  after (suc n) = next n (ticks n e t) (after n)

  pub ticks_right : TicksRight e t
  ticks_right = record { sixtieth = λ n. (after n).lists; goes_on = λ n. (after n).minute }

-- ---- setting reporting

pub setting_right : (d : DueReports) → SettingRight d
setting_right d = record { off = off; stays = refl; starts = fresh_none }
  where
    off : (b : Bool) → enabled b false d ≡ none
    off true = fresh_none
    off false = fresh_none
