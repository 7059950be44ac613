-- What a judgement tells. Each check refuses exactly where it is the first that the frame breaks; a frame that is not refused
-- passes all eight and goes by the steps; one that is answered is answered by the entry and the subject that it names.
-- Assumes nothing.
use mathlib.Core.Path.{◌≡◌, refl, sym, ap, ◌∙◌, subst}
use mathlib.Core.Bool.{Bool, true, false, cond}
use mathlib.Core.List.{List}
use Prim.Native.Nat.{ℕ, zero, suc, ◌-◌, ◌<◌}
use native.Mathlib.Omega.{arith}
use lib.ListN.{length, take, get_or}
use Rattle.std.specs.Prelude.{Option, Some, None, is_none, Result, Ok, Err}
use Rattle.std.specs.List.{find}
use Rattle.lists.proofs.Clash.{clash}
use Rattle.devices.specs.declared.row.Row.{Row}
use Rattle.devices.specs.declared.field.Setting.{Setting}
use Rattle.devices.specs.Field.{field_of}
use Rattle.devices.specs.Row.{settable}
use Rattle.devices.specs.Table.{row_at}
use Rattle.trpc.specs.Bytes.{byte_at}
use Rattle.trpc.specs.Services.{is_update}
use Rattle.trpc.specs.Judging.{number_of, entry_in, subject_in, by_entry, breaks, checks, asks, asked, device_steps, subject_steps, steps, refused_or, judge_from, judge, refusal_of, Passes, FirstBroken, Names}
use Rattle.trpc.specs.declared.methods.Entry.{Entry}
use Rattle.trpc.specs.declared.methods.DeviceMethod.{DeviceMethod}
use Rattle.trpc.specs.declared.methods.DeviceMethod.TheVariants.{DeviceAttributes, ModeSetting, CoolSetpoint, SlabSetpoint, FanPercent, SetbackEvents, DeviceVersion}
use Rattle.trpc.specs.declared.judging.FrameError.{FrameError}
use Rattle.trpc.specs.declared.judging.FrameError.TheVariants.{WrongType, TooShort, WrongService, UnknownMethod, ServiceNotUsed, WrongWidth, UnknownAddress, StateTooHigh}
use Rattle.trpc.specs.declared.judging.Subject.{Subject}
use Rattle.trpc.specs.declared.judging.Subject.TheVariants.{Own, Device}
use Rattle.trpc.specs.declared.judging.Judged.{Judged}
use Rattle.trpc.specs.declared.judging.Judged.TheVariants.{Asks, Answers}
use Rattle.trpc.proofs.Finds.{found_told, found_is, none_told, none_is}

-- ---- the order of the checks is that of their numbers

in_order : (x : FrameError) → (number_of x - 7 < length checks) × (get_or checks (number_of x - 7) x ≡ x)
in_order WrongType = (omega arith, refl)
in_order TooShort = (omega arith, refl)
in_order WrongService = (omega arith, refl)
in_order UnknownMethod = (omega arith, refl)
in_order ServiceNotUsed = (omega arith, refl)
in_order WrongWidth = (omega arith, refl)
in_order UnknownAddress = (omega arith, refl)
in_order StateTooHigh = (omega arith, refl)

number_at : (i : ℕ) → i < 8 → number_of (get_or checks i WrongType) - 7 ≡ i
number_at zero h = refl
number_at (suc zero) h = refl
number_at (suc (suc zero)) h = refl
number_at (suc (suc (suc zero))) h = refl
number_at (suc (suc (suc (suc zero)))) h = refl
number_at (suc (suc (suc (suc (suc zero))))) h = refl
number_at (suc (suc (suc (suc (suc (suc zero)))))) h = refl
number_at (suc (suc (suc (suc (suc (suc (suc zero))))))) h = refl
number_at (suc (suc (suc (suc (suc (suc (suc (suc n)))))))) h = absurd (omega (arith, h))

-- ---- the steps of a device: a property of the answer at once and of every update that is asked for is one of the judgement

module _ (P : Judged → Type 0) (answer : Judged) (now : P answer) (r : Row) (c : List ℕ) where
  module _ (later : (x : Setting) (v : ℕ) → P (Asks (field_of r.address x) v)) where
    either : (b : Bool) (x : Judged) → P x → P (cond b x answer)
    either true x p = p
    either false x p = now

    asks_either : (x : Setting) (v : ℕ) → P (asks answer r x v)
    unfolding asks
    asks_either x v = either (settable r x v) (Asks (field_of r.address x) v) (later x v)

    asked_either : (m : DeviceMethod) → P (asked answer r m c)
    unfolding asked
    asked_either DeviceAttributes = now
    asked_either ModeSetting = asks_either _ _
    asked_either CoolSetpoint = asks_either _ _
    asked_either SlabSetpoint = asks_either _ _
    asked_either FanPercent = asks_either _ _
    asked_either SetbackEvents = now
    asked_either DeviceVersion = now

    device_either : (m : DeviceMethod) → P (device_steps answer r m c)
    unfolding device_steps
    device_either m = either (is_update (byte_at c 0)) (asked answer r m c) (asked_either m)

-- ---- a record with an entry and a subject is not refused by the steps

abbrev Free : Result Judged FrameError → Type 0
Free j = refusal_of j ≡ None

module _ (c : List ℕ) (t : List Row) where
  subject_free : (e : Entry) (o : Option Subject) → is_none o ≡ false → Free (subject_steps e o c t)
  unfolding subject_steps
  subject_free e None h = clash cc
  subject_free e (Some (Own m)) h = refl
  subject_free e (Some (Device m i)) h = refl

  steps_free : (o : Option Entry) → is_none o ≡ false → by_entry (λ e. is_none (subject_in c t e.method)) o ≡ false → Free (steps o c t)
  unfolding steps
  steps_free None h k = clash cc
  steps_free (Some e) h k = subject_free e (subject_in c t e.method) k

refused_is : (o : Option FrameError) (j : Result Judged FrameError) (x : FrameError) → (o ≡ None → Free j) → refused_or o j ≡ Err x → o ≡ Some x
refused_is None j x f h = let k : None ≡ Some (number_of x) = sym (f refl) ∙ ap refusal_of h in clash cc
refused_is (Some y) j x f h = cc

free_is : (o : Option FrameError) (j : Result Judged FrameError) → Free (refused_or o j) → o ≡ None
free_is None j h = refl
free_is (Some y) j h = clash cc

-- ---- the laws

module _ (ptype : ℕ) (c : List ℕ) (t : List Row) where
  pub refused_when : (x : FrameError) → FirstBroken ptype c t x → judge ptype c t ≡ Err x
  unfolding judge judge_from
  refused_when x b =
      let own = in_order x in
      let hit = found_is (breaks ptype c t) checks (number_of x - 7) x own.0 (ap (breaks ptype c t) own.1 ∙ b.broken) b.passed in
      ap (λ (o : Option FrameError). refused_or o (steps (entry_in c) c t)) (hit ∙ ap Some own.1)

  -- a frame that passes every check has an entry and a subject
  passed_free : Passes ptype c t checks → Free (steps (entry_in c) c t)
  unfolding breaks
  passed_free p =
      let method = p.1.1.1 in
      let address = method.1.1.1 in
      steps_free c t (entry_in c) method.0 address.0

  pub refused_only : (x : FrameError) → judge ptype c t ≡ Err x → FirstBroken ptype c t x
  unfolding judge judge_from
  refused_only x h =
      let hit = found_told (breaks ptype c t) checks x (refused_is (find (breaks ptype c t) checks) (steps (entry_in c) c t) x (λ n. passed_free (none_told (breaks ptype c t) checks n)) h) in
      let place : hit.place ≡ number_of x - 7 =
      sym (ap (λ (y : FrameError). number_of y - 7) (sym (hit.stands WrongType)) ∙ number_at hit.place hit.inside) in
      record { passed = subst (λ (n : ℕ). Passes ptype c t (take n checks)) place hit.before; broken = hit.passes }

  -- a frame that is not refused passes every check
  pub passes_all : refusal_of (judge ptype c t) ≡ None → Passes ptype c t checks
  unfolding judge judge_from
  passes_all h = none_told (breaks ptype c t) checks (free_is (find (breaks ptype c t) checks) (steps (entry_in c) c t) h)

  -- and one that passes every check is judged by the steps
  judged_steps : Passes ptype c t checks → judge ptype c t ≡ steps (entry_in c) c t
  unfolding judge judge_from
  judged_steps h = ap (λ (o : Option FrameError). refused_or o (steps (entry_in c) c t)) (none_is (breaks ptype c t) checks h)

  -- so the steps decide where a frame is not refused
  pub unrefused_steps : (j : Judged) → judge ptype c t ≡ Ok j → steps (entry_in c) c t ≡ Ok j
  unrefused_steps j h = sym (judged_steps (passes_all (ap refusal_of h))) ∙ h

-- ---- a frame that is answered at once

module _ (c : List ℕ) (t : List Row) (e : Entry) (s : Subject) where
  abbrev Answered : Judged → Type 0
  Answered j = j ≡ Answers e s → Names c t e s

  of_answer : (f : Entry) (q : Subject) → entry_in c ≡ Some f → subject_in c t f.method ≡ Some q → Answered (Answers f q)
  of_answer f q l k h =
      let same : f ≡ e = cc in
      let whom : q ≡ s = cc in
      record { entry = l ∙ ap Some same; subject = ap (λ (x : Entry). subject_in c t x.method) (sym same) ∙ k ∙ ap Some whom }

  of_subject : (f : Entry) → entry_in c ≡ Some f → (o : Option Subject) → subject_in c t f.method ≡ o → subject_steps f o c t ≡ Ok (Answers e s) → Names c t e s
  unfolding subject_steps
  of_subject f l None k h = clash cc
  of_subject f l (Some (Own m)) k h = of_answer f (Own m) l k cc
  of_subject f l (Some (Device m i)) k h =
      device_either Answered (Answers f (Device m i)) (of_answer f (Device m i) l k) (row_at t i) c (λ x v w. clash cc) m cc

  pub answers_tells : (ptype : ℕ) → judge ptype c t ≡ Ok (Answers e s) → Names c t e s
  unfolding steps
  answers_tells ptype h = of_steps (entry_in c) refl (unrefused_steps ptype c t (Answers e s) h)
    where
      of_steps : (o : Option Entry) → entry_in c ≡ o → steps o c t ≡ Ok (Answers e s) → Names c t e s
      of_steps None l h = clash cc
      of_steps (Some f) l h = of_subject f l (subject_in c t f.method) refl h
