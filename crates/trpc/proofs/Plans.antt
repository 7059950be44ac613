-- A frame that is judged by its plan, and for a device by the row alone, is judged as `judge` has it: the plan makes the checks 7 to 12,
-- none of which looks at a row, and 14 and the steps hand the answer at once through. Assumes nothing.
use mathlib.Core.Path.{◌≡◌, refl, sym, ap, ◌∙◌}
use mathlib.Core.Bool.{Bool, true, false, cond}
use mathlib.Core.List.{List, [], ◌∷◌, ◌++◌}
use Prim.Native.Nat.{ℕ}
use lib.ListN.{take}
use Rattle.std.specs.Prelude.{Option, Some, None, Result, Ok, Err}
use Rattle.lists.specs.Filter.{All}
use Rattle.devices.specs.declared.row.Row.{Row}
use Rattle.devices.specs.declared.field.Setting.{Setting}
use Rattle.devices.specs.Row.{settable}
use Rattle.devices.specs.Table.{find, row_at}
use Rattle.trpc.specs.Bytes.{byte_at, word_at}
use Rattle.trpc.specs.Services.{is_update}
use Rattle.trpc.specs.Methods.{too_high}
use Rattle.trpc.specs.Judging.{entry_in, breaks, subject_checks, checks, asks, asked, device_steps, judge_device, judge_from, judge}
use Rattle.trpc.specs.Planning.{plan_for, plan_of, plan_from, plan, row_part, passed_on, at_once, judge_row, row_judged, judged_at, judged_by}
use Rattle.trpc.specs.declared.methods.Entry.{Entry}
use Rattle.trpc.specs.declared.methods.Method.{Method}
use Rattle.trpc.specs.declared.methods.Method.TheVariants.{OfGateway, OfDevice}
use Rattle.trpc.specs.declared.methods.DeviceMethod.{DeviceMethod}
use Rattle.trpc.specs.declared.methods.DeviceMethod.TheVariants.{DeviceAttributes, ModeSetting, CoolSetpoint, SlabSetpoint, FanPercent, SetbackEvents, DeviceVersion}
use Rattle.trpc.specs.declared.judging.FrameError.{FrameError}
use Rattle.trpc.specs.declared.judging.Subject.TheVariants.{Device}
use Rattle.trpc.specs.declared.judging.Judged.{Judged}
use Rattle.trpc.specs.declared.judging.Judged.TheVariants.{Answers}
use Rattle.trpc.specs.declared.planning.Planned.{Planned}
use Rattle.trpc.proofs.Ladder.{broken, passed, plan_broken, plan_passed, unlisted_judged, own_judged, device_missing, device_judged}

-- ---- the row: 14 and the steps hand the answer at once through

module _ (answer : Judged) where
  -- the second is the first, with this answer at once
  abbrev Through : Judged → Judged → Type 0
  Through j k = row_judged (row_part j) answer ≡ k

  either : (b : Bool) (x y j k : Judged) → Through x y → Through j k → Through (cond b x j) (cond b y k)
  either true x y j k p q = p
  either false x y j k p q = q

  refused_either : (b : Bool) (x : FrameError) (j k : Judged) → Through j k
      → passed_on (λ p. row_judged p answer) (passed_on row_part (cond b (Err x) (Ok j))) ≡ cond b (Err x) (Ok k)
  refused_either true x j k p = refl
  refused_either false x j k p = ap Ok p

  asks_through : (r : Row) (x : Setting) (v : ℕ) → Through (asks at_once r x v) (asks answer r x v)
  unfolding asks
  asks_through r x v = either (settable r x v) _ _ _ _ refl refl

  asked_through : (r : Row) (m : DeviceMethod) (c : List ℕ) → Through (asked at_once r m c) (asked answer r m c)
  unfolding asked
  asked_through r DeviceAttributes c = refl
  asked_through r ModeSetting c = asks_through r _ _
  asked_through r CoolSetpoint c = asks_through r _ _
  asked_through r SlabSetpoint c = asks_through r _ _
  asked_through r FanPercent c = asks_through r _ _
  asked_through r SetbackEvents c = refl
  asked_through r DeviceVersion c = refl

  pub row_judged_lem : (r : Row) (m : DeviceMethod) (c : List ℕ) → passed_on (λ j. row_judged j answer) (judge_row r m c) ≡ judge_device answer r m c
  unfolding judge_row judge_device device_steps
  row_judged_lem r m c = refused_either (too_high m (byte_at c 7)) _ _ _ (either (is_update (byte_at c 0)) _ _ _ _ (asked_through r m c) refl)

-- ---- the plan: checks that look at no row, then 13 and what follows

module _ (ptype : ℕ) (c : List ℕ) (t : List Row) where
  -- the judgement by these checks, 13 and what follows is the plan's by these checks
  abbrev ByPlan : List FrameError → Type 0
  ByPlan l = judge_from (l ++ subject_checks) ptype c t ≡ judged_by (plan_from l ptype c) c t

  -- 13 and what follows is this judgement
  abbrev Follows : Result Judged FrameError → Type 0
  Follows j = judge_from subject_checks ptype c t ≡ j

  module _ (e : Entry) (l : entry_in c ≡ Some e) where
    of_place : (m : DeviceMethod) → e.method ≡ OfDevice m → (f : Option ℕ) → find t (word_at c 5) ≡ f → Follows (judged_at e m c t f)
    of_place m is None at = device_missing ptype c t e l m is at
    of_place m is (Some i) at = device_judged ptype c t e l m is i at ∙ sym (row_judged_lem (Answers e (Device m i)) (row_at t i) m c)

    of_method : (m : Method) → e.method ≡ m → Follows (judged_by (Ok (plan_for e c m)) c t)
    of_method (OfGateway m) is = own_judged ptype c t e l m is
    of_method (OfDevice m) is = of_place m is (find t (word_at c 5)) refl

  of_entry : (o : Option Entry) → entry_in c ≡ o → Follows (judged_by (plan_of o c) c t)
  of_entry None l = unlisted_judged ptype c t l
  of_entry (Some e) l = of_method e l e.method refl

  of_checks : (l : List FrameError) → All (λ x. breaks ptype c t x ≡ breaks ptype c [] x) l → ByPlan l
  unfolding plan_from
  of_checks [] same = of_entry (entry_in c) refl
  of_checks (x ∷ l) same = go (breaks ptype c [] x) refl (of_checks l same.1)
    where
      after : List FrameError
      after = l ++ subject_checks

      by : (p q : Result Planned FrameError) → p ≡ q → judged_by q c t ≡ judged_by p c t
      by p q h = sym (ap (λ (r : Result Planned FrameError). judged_by r c t) h)

      go : (b : Bool) → breaks ptype c [] x ≡ b → ByPlan l → ByPlan (x ∷ l)
      go true e h = broken ptype c t x after (same.0 ∙ e) ∙ by _ _ (plan_broken ptype c x l e)
      go false e h = passed ptype c t x after (same.0 ∙ e) ∙ h ∙ by _ _ (plan_passed ptype c x l e)

  pub judge_planned : judge ptype c t ≡ judged_by (plan ptype c) c t
  unfolding judge plan breaks
  judge_planned = of_checks (take 6 checks) (refl, (refl, (refl, (refl, (refl, (refl, tt))))))
