-- How long a reply is: at most twelve bytes, and as long as the record where that passed the checks. Assumes nothing.
use mathlib.Core.Path.{◌≡◌, refl, sym, ap, ◌∙◌}
use mathlib.Core.List.{List}
use Prim.Native.Nat.{ℕ, ◌+◌, ◌≤◌}
use native.Mathlib.Omega.{arith}
use lib.Dec.{eqb}
use lib.ListN.{length}
use Rattle.std.specs.Prelude.{Option, Some, None, Ok}
use borrow.Author.Tests.{not-false, eqb-true}
use Rattle.lists.proofs.Clash.{clash}
use Rattle.devices.specs.declared.row.Row.{Row}
use Rattle.devices.specs.declared.field.Field.{Field}
use Rattle.devices.specs.declared.field.Setting.{Setting}
use Rattle.devices.specs.declared.field.Setting.TheVariants.{Mode, Cool, Slab, Fan}
use Rattle.devices.specs.Field.{setting}
use Rattle.devices.specs.Table.{find, row_at}
use Rattle.trpc.specs.Bytes.{word_at, long_at}
use Rattle.trpc.specs.Methods.{entry_of}
use Rattle.trpc.specs.Properties.{after_record}
use Rattle.trpc.specs.Judging.{device_at, subject_in, breaks, checks, judge, refusal_of, Passes, Names}
use Rattle.trpc.specs.Payload.{setting_payload, gateway_payload, device_payload}
use Rattle.trpc.specs.Replies.{respond_gateway, respond_device, respond, confirm}
use Rattle.trpc.specs.declared.properties.Properties.{Properties}
use Rattle.trpc.specs.declared.methods.Entry.{Entry}
use Rattle.trpc.specs.declared.methods.Method.{Method}
use Rattle.trpc.specs.declared.methods.Method.TheVariants.{OfGateway, OfDevice}
use Rattle.trpc.specs.declared.methods.GatewayMethod.{GatewayMethod}
use Rattle.trpc.specs.declared.methods.GatewayMethod.TheVariants.{NetworkError, ReportingEnable, FirmwareRevision, ProtocolVersion, DateTime}
use Rattle.trpc.specs.declared.methods.DeviceMethod.{DeviceMethod}
use Rattle.trpc.specs.declared.methods.DeviceMethod.TheVariants.{DeviceAttributes, ModeSetting, CoolSetpoint, SlabSetpoint, FanPercent, SetbackEvents, DeviceVersion}
use Rattle.trpc.specs.declared.judging.Subject.{Subject}
use Rattle.trpc.specs.declared.judging.Subject.TheVariants.{Own, Device}
use Rattle.trpc.specs.declared.judging.Judged.TheVariants.{Answers}
use Rattle.trpc.proofs.Listed.{entry_by, entry_by_lem}
use Rattle.trpc.proofs.Checks.{passes_all, answers_tells}

-- ---- a payload has the width that the list gives its method, at most seven bytes

-- a payload of n bytes, and few of them
abbrev Wide : ℕ → ℕ → Type 0
Wide k n = (k ≡ n) × (n ≤ 7)

own_width : (g : Properties) (m : GatewayMethod) (c : List ℕ) → Wide (length (gateway_payload g m c)) (entry_by (OfGateway m)).width
unfolding gateway_payload
own_width g NetworkError c = (refl, omega arith)
own_width g ReportingEnable c = (refl, omega arith)
own_width g FirmwareRevision c = (refl, omega arith)
own_width g ProtocolVersion c = (refl, omega arith)
own_width g DateTime c = (refl, omega arith)

device_width : (r : Row) (m : DeviceMethod) (c : List ℕ) → Wide (length (device_payload r m c)) (entry_by (OfDevice m)).width
unfolding device_payload
device_width r DeviceAttributes c = (refl, omega arith)
device_width r ModeSetting c = (refl, omega arith)
device_width r CoolSetpoint c = (refl, omega arith)
device_width r SlabSetpoint c = (refl, omega arith)
device_width r FanPercent c = (refl, omega arith)
device_width r SetbackEvents c = (refl, omega arith)
device_width r DeviceVersion c = (refl, omega arith)

-- ---- the reply at once

abbrev method_of : Subject → Method
method_of (Own m) = OfGateway m
method_of (Device m i) = OfDevice m

module _ (c : List ℕ) (e : Entry) (g : Properties) (t : List Row) where
  width : (s : Subject) → length (respond c e s g t).content ≡ (entry_by (method_of s)).width + 5
  unfolding respond respond_gateway respond_device
  width (Own m) = omega (arith, (own_width (after_record g e.update c) m c).0)
  width (Device m i) = omega (arith, (device_width (row_at t i) m c).0)

  pub reply_fits : (s : Subject) → length (respond c e s g t).content ≤ 12
  unfolding respond respond_gateway respond_device
  reply_fits (Own m) = let w = own_width (after_record g e.update c) m c in omega (arith, w.0, w.1)
  reply_fits (Device m i) = let w = device_width (row_at t i) m c in omega (arith, w.0, w.1)

-- the subject that a content names has the method
module _ (c : List ℕ) (t : List Row) (s : Subject) where
  of_place : (m : DeviceMethod) (p : Option ℕ) → device_at m p ≡ Some s → method_of s ≡ OfDevice m
  of_place m (Some i) h = let same : Device m i ≡ s = cc in ap method_of (sym same)
  of_place m None h = clash cc

  subject_method : (m : Method) → subject_in c t m ≡ Some s → method_of s ≡ m
  subject_method (OfGateway m) h = let same : Own m ≡ s = cc in ap method_of (sym same)
  subject_method (OfDevice m) h = of_place m (find t (word_at c 5)) h

-- the reply to a frame that is answered at once is as long as its data
module _ (ptype : ℕ) (c : List ℕ) (e : Entry) (s : Subject) (g : Properties) (t : List Row) (h : judge ptype c t ≡ Ok (Answers e s)) where
  passed : Passes ptype c t checks
  passed = passes_all ptype c t (ap refusal_of h)

  named : Names c t e s
  named = answers_tells c t e s ptype h

  pub reply_length : length (respond c e s g t).content ≡ length c
  unfolding breaks
  reply_length =
      let listed = passed.1.1.1 in
      let wide = rw named.entry at listed.1.1.0 in
      let entry = ap entry_by (subject_method c t s e.method named.subject) ∙ entry_by_lem (long_at c 1) e named.entry in
      omega (arith, width c e g t s, ap (λ (x : Entry). x.width) entry, eqb-true (length c) (e.width + 5) (not-false (eqb (length c) (e.width + 5)) wide))

-- ---- the reply to a confirmed update

setting_width : (a : ℕ) (x : Setting) (v : ℕ) → Wide (length (setting_payload a x v)) (entry_of x).width
setting_width a Mode v = (refl, omega arith)
setting_width a (Cool s) v = (refl, omega arith)
setting_width a (Slab s) v = (refl, omega arith)
setting_width a (Fan s) v = (refl, omega arith)

pub confirm_fits : (f : Field) (v : ℕ) → length (confirm f v) ≤ 12
unfolding confirm
confirm_fits f v = let w = setting_width f.address (setting f) v in omega (arith, w.0, w.1)
