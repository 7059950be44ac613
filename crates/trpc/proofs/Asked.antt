-- What a frame that asks for an update tells: the update is the one that was sent; and a confirmation of its field carries its method.
-- Assumes nothing.
use mathlib.Core.Path.{◌≡◌, refl, sym, ap, ◌∙◌, subst}
use mathlib.Core.Bool.{Bool, true, false, ◌&&◌, cond}
use mathlib.Core.List.{List}
use Prim.Native.Nat.{ℕ, ◌≤◌}
use native.Mathlib.Omega.{arith}
use lib.Dec.{leb}
use Rattle.std.specs.Prelude.{Option, Some, None, Ok}
use borrow.Author.Tests.{leb-true, eqb-true}
use Rattle.lists.proofs.Clash.{clash}
use Rattle.lists.proofs.Firsts.{first_told}
use Rattle.lists.proofs.Filters.{and_left}
use Rattle.devices.specs.declared.row.Row.{Row}
use Rattle.devices.specs.declared.field.Field.{Field}
use Rattle.devices.specs.declared.field.Setting.{Setting}
use Rattle.devices.specs.declared.field.Setting.TheVariants.{Mode, Cool, Slab, Fan}
use Rattle.devices.specs.Field.{state_of, setting, field_of, Formed}
use Rattle.devices.specs.Row.{has_bit, for_state, has, in_range, legal, updatable, settable, cooling, slab, fan}
use Rattle.devices.specs.Table.{addressed, find, row_at}
use Rattle.devices.proofs.Fields.{setting_field, field_formed}
use Rattle.devices.proofs.Places.{place_row}
use Rattle.trpc.specs.Bytes.{byte_at, word_at, long_at}
use Rattle.trpc.specs.Services.{is_update}
use Rattle.trpc.specs.Methods.{entry_of}
use Rattle.trpc.specs.Judging.{entry_in, device_at, subject_in, asks, asked, device_steps, subject_steps, steps, judge}
use Rattle.trpc.specs.Payload.{setting_payload}
use Rattle.trpc.specs.Replies.{record_of, confirm}
use Rattle.trpc.specs.Asked.{sent_state, sent_value, Asked}
use Rattle.trpc.specs.declared.methods.Entry.{Entry}
use Rattle.trpc.specs.declared.methods.Method.{Method}
use Rattle.trpc.specs.declared.methods.Method.TheVariants.{OfGateway, OfDevice}
use Rattle.trpc.specs.declared.methods.DeviceMethod.{DeviceMethod}
use Rattle.trpc.specs.declared.methods.DeviceMethod.TheVariants.{DeviceAttributes, ModeSetting, CoolSetpoint, SlabSetpoint, FanPercent, SetbackEvents, DeviceVersion}
use Rattle.trpc.specs.declared.judging.Subject.{Subject}
use Rattle.trpc.specs.declared.judging.Subject.TheVariants.{Device}
use Rattle.trpc.specs.declared.judging.Judged.TheVariants.{Asks, Answers}
use Rattle.trpc.proofs.Listed.{entry_id, entry_setting}
use Rattle.trpc.proofs.Checks.{unrefused_steps}

-- ---- a value that may be set is for one of the seven states

for_state_lem : (mask bit s : ℕ) → for_state mask bit s ≡ true → s ≤ 6
unfolding for_state
for_state_lem mask bit s h = leb-true s 6 (and_left (leb s 6) (has_bit mask bit) h)

has_state_lem : (r : Row) (x : Setting) → has r x ≡ true → state_of x ≤ 6
unfolding has
has_state_lem r Mode h = omega arith
has_state_lem r (Cool s) h = for_state_lem r.mask cooling s h
has_state_lem r (Slab s) h = for_state_lem r.mask slab s h
has_state_lem r (Fan s) h = for_state_lem r.mask fan s h

settable_state : (r : Row) (x : Setting) (v : ℕ) → settable r x v ≡ true → state_of x ≤ 6
unfolding settable legal
settable_state r x v h = has_state_lem r x (and_left (has r x) (in_range r x v) (and_left (has r x && in_range r x v) (updatable x v) h))

-- ---- the steps

field_is : (f g : Field) (v w : ℕ) → Asks f v ≡ Asks g w → f ≡ g
field_is f g v w h = cc

value_is : (f g : Field) (v w : ℕ) → Asks f v ≡ Asks g w → v ≡ w
value_is f g v w h = cc

module _ (c : List ℕ) (r : Row) (m : DeviceMethod) where
  -- a setting and a value are those that a record of the method names
  record Sent (x : Setting) (v : ℕ) : Type 0 where
    method : (entry_of x).method ≡ OfDevice m
    resolved : state_of x ≡ sent_state c r x
    carried : v ≡ sent_value c x

  -- the field is of the row, formed, and of such a setting, and the value may be set there
  record AskedOf (f : Field) (v : ℕ) : Type 0 where
    address : f.address ≡ r.address
    formed : Formed f
    value : settable r (setting f) v ≡ true
    sent : Sent (setting f) v

  module _ (e : Entry) (s : Subject) (f : Field) (v : ℕ) where
    of_asks : (x : Setting) (w : ℕ) → Sent x w → asks (Answers e s) r x w ≡ Asks f v → AskedOf f v
    unfolding asks
    of_asks x w n h = go (settable r x w) refl h
      where
        go : (b : Bool) → settable r x w ≡ b → cond b (Asks (field_of r.address x) w) (Answers e s) ≡ Asks f v → AskedOf f v
        go true k j =
            let same : field_of r.address x ≡ f = field_is (field_of r.address x) f w v j in
            let value : w ≡ v = value_is (field_of r.address x) f w v j in
            let names : x ≡ setting f = sym (setting_field r.address x) ∙ ap setting same in
            record {
              address = sym (ap (λ (g : Field). g.address) same);
              formed = subst Formed same (field_formed r.address x);
              value = subst (λ (y : Setting). settable r y v ≡ true) names (subst (λ (u : ℕ). settable r x u ≡ true) value k);
              sent = subst (λ (y : Setting). Sent y v) names (subst (Sent x) value n);
            }
        go false k j = clash cc

-- an Update to a device, by its method
of_asked : (c : List ℕ) (r : Row) (m : DeviceMethod) (e : Entry) (s : Subject) (f : Field) (v : ℕ) → asked (Answers e s) r m c ≡ Asks f v → AskedOf c r m f v
unfolding asked
of_asked c r DeviceAttributes e s f v h = clash cc
of_asked c r ModeSetting e s f v h = of_asks c r ModeSetting e s f v _ _ (record { method = refl; resolved = refl; carried = refl }) h
of_asked c r CoolSetpoint e s f v h = of_asks c r CoolSetpoint e s f v _ _ (record { method = refl; resolved = refl; carried = refl }) h
of_asked c r SlabSetpoint e s f v h = of_asks c r SlabSetpoint e s f v _ _ (record { method = refl; resolved = refl; carried = refl }) h
of_asked c r FanPercent e s f v h = of_asks c r FanPercent e s f v _ _ (record { method = refl; resolved = refl; carried = refl }) h
of_asked c r SetbackEvents e s f v h = clash cc
of_asked c r DeviceVersion e s f v h = clash cc

-- ---- the law

module _ (c : List ℕ) (t : List Row) (f : Field) (v : ℕ) where
  module _ (e : Entry) (l : entry_in c ≡ Some e) where
    module _ (m : DeviceMethod) (is : e.method ≡ OfDevice m) (i : ℕ) (at : find t (word_at c 5) ≡ Some i) where
      of_device : device_steps (Answers e (Device m i)) (row_at t i) m c ≡ Asks f v → Asked c t f v
      unfolding device_steps
      of_device h = go (is_update (byte_at c 0)) refl h
        where
          r : Row
          r = row_at t i

          go : (b : Bool) → is_update (byte_at c 0) ≡ b → cond b (asked (Answers e (Device m i)) r m c) (Answers e (Device m i)) ≡ Asks f v → Asked c t f v
          go true u j =
              let a = of_asked c r m e (Device m i) f v j in
              let known = place_row t (word_at c 5) i at in
              record {
                update = u;
                method = l ∙ ap Some (entry_setting (long_at c 1) e (setting f) l (is ∙ sym a.sent.method));
                row = r;
                known = known;
                address = a.address;
                sent = a.address ∙ eqb-true r.address (word_at c 5) (first_told (addressed (word_at c 5)) t r known).passes;
                formed = a.formed;
                resolved = a.sent.resolved;
                state = settable_state r (setting f) v a.value;
                carried = a.sent.carried;
                value = a.value;
              }
          go false u j = clash cc
          -- the place found decides

    of_place : (m : DeviceMethod) → e.method ≡ OfDevice m → (p : Option ℕ) → find t (word_at c 5) ≡ p → subject_steps e (device_at m p) c t ≡ Ok (Asks f v) → Asked c t f v
    unfolding subject_steps
    of_place m is (Some i) at h = of_device m is i at cc
    of_place m is None at h = clash cc

    of_method : (m : Method) → e.method ≡ m → subject_steps e (subject_in c t m) c t ≡ Ok (Asks f v) → Asked c t f v
    unfolding subject_steps
    of_method (OfGateway m) is h = clash cc
    of_method (OfDevice m) is h = of_place m is (find t (word_at c 5)) refl h

  pub asks_tells : (ptype : ℕ) → judge ptype c t ≡ Ok (Asks f v) → Asked c t f v
  unfolding steps
  asks_tells ptype h = of_steps (entry_in c) refl (unrefused_steps ptype c t (Asks f v) h)
    where
      of_steps : (o : Option Entry) → entry_in c ≡ o → steps o c t ≡ Ok (Asks f v) → Asked c t f v
      of_steps None l h = clash cc
      of_steps (Some e) l h = of_method e l e.method refl h

-- ---- the confirmation

carries : (x : Setting) (service : ℕ) (l : List ℕ) → long_at (record_of service (entry_of x).id l) 1 ≡ (entry_of x).id
carries Mode service l = refl
carries (Cool s) service l = refl
carries (Slab s) service l = refl
carries (Fan s) service l = refl

-- a confirmation of the field, with whatever value, carries the method of the frame that asked for the update
pub confirm_method : (c : List ℕ) (t : List Row) (f : Field) (v w : ℕ) → Asked c t f v → long_at (confirm f w) 1 ≡ long_at c 1
unfolding confirm
confirm_method c t f v w a =
    carries (setting f) 3 (setting_payload f.address (setting f) w) ∙ entry_id (long_at c 1) (entry_of (setting f)) a.method
