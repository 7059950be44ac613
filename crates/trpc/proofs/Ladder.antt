-- The judgement and the plan, check by check: a check that is broken refuses, one that is passed leaves it to the next, and the last to
-- the steps. Assumes nothing.
use mathlib.Core.Path.{◌≡◌, refl, ap, ◌∙◌}
use mathlib.Core.Bool.{Bool, true, false, cond}
use mathlib.Core.List.{List, [], ◌∷◌}
use Prim.Native.Nat.{ℕ}
use Rattle.std.specs.Prelude.{Some, None, Result, Ok, Err}
use Rattle.devices.specs.declared.row.Row.{Row}
use Rattle.devices.specs.Table.{find, row_at}
use Rattle.trpc.specs.Bytes.{byte_at, word_at}
use Rattle.trpc.specs.Methods.{too_high}
use Rattle.trpc.specs.Judging.{record_type, entry_in, device_at, subject_in, state_too_high, breaks, subject_checks, device_steps, judge_device, subject_steps, steps, refused_or, judge_from}
use Rattle.trpc.specs.Planning.{plan_for, plan_from}
use Rattle.trpc.specs.declared.methods.Entry.{Entry}
use Rattle.trpc.specs.declared.methods.Method.{Method}
use Rattle.trpc.specs.declared.methods.Method.TheVariants.{OfGateway, OfDevice}
use Rattle.trpc.specs.declared.methods.GatewayMethod.{GatewayMethod}
use Rattle.trpc.specs.declared.methods.DeviceMethod.{DeviceMethod}
use Rattle.trpc.specs.declared.judging.FrameError.{FrameError}
use Rattle.trpc.specs.declared.judging.FrameError.TheVariants.{UnknownMethod, UnknownAddress, StateTooHigh}
use Rattle.trpc.specs.declared.judging.Subject.TheVariants.{Own, Device}
use Rattle.trpc.specs.declared.judging.Judged.{Judged}
use Rattle.trpc.specs.declared.judging.Judged.TheVariants.{Answers}

-- ---- a check and those after it

module _ (ptype : ℕ) (c : List ℕ) (t : List Row) (x : FrameError) (l : List FrameError) where
  pub broken : breaks ptype c t x ≡ true → judge_from (x ∷ l) ptype c t ≡ Err x
  unfolding judge_from
  broken h = rw h

  pub passed : breaks ptype c t x ≡ false → judge_from (x ∷ l) ptype c t ≡ judge_from l ptype c t
  unfolding judge_from
  passed h = rw h

module _ (ptype : ℕ) (c : List ℕ) (x : FrameError) (l : List FrameError) where
  pub plan_broken : breaks ptype c [] x ≡ true → plan_from (x ∷ l) ptype c ≡ Err x
  unfolding plan_from
  plan_broken h = rw h

  pub plan_passed : breaks ptype c [] x ≡ false → plan_from (x ∷ l) ptype c ≡ plan_from l ptype c
  unfolding plan_from
  plan_passed h = rw h

-- ---- no check is left: whom the record is for

pub plan_for_lem : (c : List ℕ) (e : Entry) → entry_in c ≡ Some e → (m : Method) → e.method ≡ m → plan_from [] record_type c ≡ Ok (plan_for e c m)
unfolding plan_from
plan_for_lem c e l m is = rw (l, is)

-- ---- 13 and 14, and the steps

module _ (ptype : ℕ) (c : List ℕ) (t : List Row) where
  pub unlisted_judged : entry_in c ≡ None → judge_from subject_checks ptype c t ≡ Err UnknownMethod
  unfolding judge_from breaks steps
  unlisted_judged l = rw l

  module _ (e : Entry) (l : entry_in c ≡ Some e) where
    pub own_judged : (m : GatewayMethod) → e.method ≡ OfGateway m → judge_from subject_checks ptype c t ≡ Ok (Answers e (Own m))
    unfolding judge_from breaks steps subject_steps
    own_judged m is = rw (l, is)

    module _ (m : DeviceMethod) (is : e.method ≡ OfDevice m) where
      pub device_missing : find t (word_at c 5) ≡ None → judge_from subject_checks ptype c t ≡ Err UnknownAddress
      unfolding judge_from breaks
      device_missing at = rw (l, is, at)

      pub device_judged : (i : ℕ) → find t (word_at c 5) ≡ Some i → judge_from subject_checks ptype c t ≡ judge_device (Answers e (Device m i)) (row_at t i) m c
      unfolding judge_from breaks steps subject_steps judge_device
      device_judged i at =
          let subject : subject_in c t e.method ≡ Some (Device m i) = ap (subject_in c t) is ∙ ap (device_at m) at in
          let high : state_too_high c e.method ≡ too_high m (byte_at c 7) = ap (state_too_high c) is in
          rw (l, subject, high) (go (too_high m (byte_at c 7)) (Ok (device_steps (Answers e (Device m i)) (row_at t i) m c)))
        where
          go : (b : Bool) (j : Result Judged FrameError) → refused_or (cond b (Some StateTooHigh) None) j ≡ cond b (Err StateTooHigh) j
          go true j = refl
          go false j = refl
