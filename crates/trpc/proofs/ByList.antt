-- The checks 10 to 12 are the list's, and 13 the table's: of a frame that passes the checks before, 10 refuses exactly where no entry
-- has the method's ID, 11 exactly where the entry's services lack the frame's, 12 exactly where the entry's width is another, and 13
-- exactly where a device's method has an address that no row has. Assumes nothing.
use mathlib.Core.Path.{◌≡◌, refl, sym, ap, ◌∙◌}
use mathlib.Core.Logic.{◌≢◌}
use mathlib.Core.Bool.{true, false}
use mathlib.Core.List.{List}
use mathlib.Core.Option.{none}
use Prim.Native.Nat.{ℕ, ◌+◌}
use lib.Dec.{eqb}
use lib.ListN.{length, take}
use Rattle.std.specs.Prelude.{Option, Some, None, is_none, Err}
use borrow.Author.Tests.{not-true, ne_eqb, eqb-false}
use Rattle.lists.specs.Filter.{All}
use Rattle.lists.proofs.Clash.{clash}
use Rattle.lists.proofs.Filters.{all_imp}
use Rattle.lists.proofs.Firsts.{none_told, none_is}
use Rattle.devices.specs.declared.row.Row.{Row}
use Rattle.devices.specs.Table.{addressed, row_of, find}
use Rattle.devices.proofs.Places.{place_row, missing_row}
use Rattle.trpc.specs.Bytes.{byte_at, word_at, long_at}
use Rattle.trpc.specs.Methods.{methods, used_with}
use Rattle.trpc.specs.Judging.{entry_in, device_at, breaks, checks, judge, Passes}
use Rattle.trpc.specs.declared.methods.Entry.{Entry}
use Rattle.trpc.specs.declared.methods.Method.TheVariants.{OfDevice}
use Rattle.trpc.specs.declared.methods.DeviceMethod.{DeviceMethod}
use Rattle.trpc.specs.declared.judging.FrameError.TheVariants.{UnknownMethod, ServiceNotUsed, WrongWidth, UnknownAddress}
use Rattle.trpc.proofs.Listed.{no_entry, no_entry_when}
use Rattle.trpc.proofs.Checks.{refused_when, refused_only}

missing_is : {A : Type 0} (o : Option A) → is_none o ≡ true → o ≡ None
missing_is None h = refl
missing_is (Some x) h = clash cc

module _ (ptype : ℕ) (c : List ℕ) (t : List Row) where
  module _ (p : Passes ptype c t (take 3 checks)) where
    pub ten_when : All (λ e. e.id ≢ long_at c 1) methods → judge ptype c t ≡ Err UnknownMethod
    unfolding breaks
    ten_when h = refused_when ptype c t UnknownMethod (record { passed = p; broken = ap is_none (no_entry_when (long_at c 1) h) })

    pub ten_only : judge ptype c t ≡ Err UnknownMethod → All (λ e. e.id ≢ long_at c 1) methods
    unfolding breaks
    ten_only h = no_entry (long_at c 1) (missing_is (entry_in c) (refused_only ptype c t UnknownMethod h).broken)

  module _ (e : Entry) (l : entry_in c ≡ Some e) where
    module _ (p : Passes ptype c t (take 4 checks)) where
      pub eleven_when : used_with e (byte_at c 0) ≡ false → judge ptype c t ≡ Err ServiceNotUsed
      unfolding breaks
      eleven_when h = refused_when ptype c t ServiceNotUsed (record { passed = p; broken = rw (l, h) })

      pub eleven_only : judge ptype c t ≡ Err ServiceNotUsed → used_with e (byte_at c 0) ≡ false
      unfolding breaks
      eleven_only h = not-true (used_with e (byte_at c 0)) (rw l at (refused_only ptype c t ServiceNotUsed h).broken)

    module _ (p : Passes ptype c t (take 5 checks)) where
      pub twelve_when : length c ≢ e.width + 5 → judge ptype c t ≡ Err WrongWidth
      unfolding breaks
      twelve_when h = refused_when ptype c t WrongWidth (record { passed = p; broken = rw (l, ne_eqb (length c) (e.width + 5) h) })

      pub twelve_only : judge ptype c t ≡ Err WrongWidth → length c ≢ e.width + 5
      unfolding breaks
      twelve_only h = eqb-false (length c) (e.width + 5) (not-true (eqb (length c) (e.width + 5)) (rw l at (refused_only ptype c t WrongWidth h).broken))

    -- ---- 13, of a method of a device

    module _ (m : DeviceMethod) (is : e.method ≡ OfDevice m) where
      abbrev Unknown : Type 0
      Unknown = All (λ r. r.address ≢ word_at c 5) t

      pub thirteen_when : Passes ptype c t (take 6 checks) → Unknown → judge ptype c t ≡ Err UnknownAddress
      unfolding breaks
      thirteen_when p h = refused_when ptype c t UnknownAddress (record { passed = p; broken = rw (l, is) (no_place m (find t (word_at c 5)) refl) })
        where
          none_has : row_of t (word_at c 5) ≡ none
          none_has = none_is (addressed (word_at c 5)) t (all_imp _ _ (λ r k. ne_eqb r.address (word_at c 5) k) t h)

          no_place : (m : DeviceMethod) (f : Option ℕ) → find t (word_at c 5) ≡ f → is_none (device_at m f) ≡ true
          no_place m None at = refl
          no_place m (Some i) at = let k = sym none_has ∙ place_row t (word_at c 5) i at in clash cc

      pub thirteen_only : judge ptype c t ≡ Err UnknownAddress → Unknown
      unfolding breaks
      thirteen_only h = has_none (find t (word_at c 5)) refl (rw (l, is) at (refused_only ptype c t UnknownAddress h).broken)
        where
          has_none : (f : Option ℕ) → find t (word_at c 5) ≡ f → is_none (device_at m f) ≡ true → Unknown
          has_none None at k =
              all_imp _ _ (λ r j. eqb-false r.address (word_at c 5) j) t (none_told (addressed (word_at c 5)) t (missing_row t (word_at c 5) at))
          has_none (Some i) at k = clash cc
