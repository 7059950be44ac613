-- The bytes kept for a long call, and those of a line put behind them. Assumes nothing.
use Rattle.std.proofs.Common.{◌≡◌, ℕ, ◌+◌, ◌-◌, ◌≤◌, ◌<◌, Bool, true, false, List, [], ◌++◌, length, take, drop, Result, Ok, is_ok, refl, sym, ◌∙◌, ap, append_assoc, arith}
use borrow.Author.Tests.{le-leb, lt-leb}
use borrow.Rule.Slice.PartMut.{put_mid}
use lib.ListN.{length-append, length-take}
use lib.Seq.{drop-drop}
use Rattle.lists.specs.Overlay.{overlay}
use Rattle.lists.proofs.Overlays.{overlay_taken, overlay_take}
use Rattle.text.specs.declared.place.Text.{Text}
use Rattle.text.proofs.Places.{puts_nothing}
use Rattle.gateway.specs.declared.gateway.Gateway.{Gateway}
use Rattle.script.specs.Place.{Place}
use Rattle.script.specs.Reading.{read_bytes}
use Rattle.interpreter.specs.declared.result.BadLine.{BadLine}
use Rattle.interpreter.specs.declared.keeping.Kept.{Kept}
use Rattle.interpreter.specs.Limits.{longest}
use Rattle.interpreter.specs.Done.{Done, served, bad, Does, Tells, Ran, as_was, Runs}
use Rattle.interpreter.specs.Keeping.{held, Gathering, listed, all_fit, gathered_if, gathering, Gathers, using_up, more_call}
use Rattle.interpreter.proofs.Tellings.{tells_bad, tells_good}

-- the bytes are kept still, and no others
module _ (kept : Kept) where
  held_length : length (held kept) ≤ length kept.store.now
  held_length = omega (arith, length-take kept.count kept.store.now)

  not_gathered : (t : Bool) → t ≡ false → (bytes : List ℕ) {stored : Kept} → stored.store ≡ kept.store → stored.count ≡ length (held kept)
      → {r : Result Unit BadLine} → is_ok r ≡ false → Gathers (gathered_if t (held kept) bytes) kept stored r
  not_gathered t e bytes {stored} same count refused =
      rw e (record { good = refused; same_store = rw same; count = count; holds = rw same (sym (overlay_taken kept.count kept.store.now)) })

  -- a number over the store's length counts as that length
  kept_same : take (length (held kept)) kept.store.now ≡ held kept
  kept_same = ap (λ (l : List ℕ). take (length (held kept)) l) (sym (overlay_taken kept.count kept.store.now)) ∙ overlay_take (held kept) kept.store.now

  module _ (l : List ℕ) (c : Place) where
    -- a word is bad
    pub gather_bad : is_ok (read_bytes longest l c) ≡ false → {stored : Kept} → stored.store ≡ kept.store → stored.count ≡ length (held kept)
        → {r : Result Unit BadLine} → is_ok r ≡ false → Gathers (gathering (length kept.store.now) (held kept) l c) kept stored r
    unfolding gathering
    gather_bad e same count refused =
        let t : all_fit (length kept.store.now) (held kept) l c ≡ false = rw e refl in
        not_gathered _ t (listed l c) same count refused

    module _ (good : is_ok (read_bytes longest l c) ≡ true) {front : List ℕ} (is : front ≡ listed l c) where
      -- there is no room for the bytes
      pub gather_full : length kept.store.now - length (held kept) < length front → {stored : Kept} → stored.store ≡ kept.store
          → stored.count ≡ length (held kept) → {r : Result Unit BadLine} → is_ok r ≡ false
          → Gathers (gathering (length kept.store.now) (held kept) l c) kept stored r
      unfolding gathering
      gather_full h same count refused =
          let more = rw is at h in
          let t : all_fit (length kept.store.now) (held kept) l c ≡ false = rw (good, lt-leb (length (held kept ++ listed l c)) (length kept.store.now) (omega (arith, length-append (held kept) (listed l c)))) refl in
          not_gathered _ t (listed l c) same count refused

      -- they are put
      pub gather_put : length front ≤ length kept.store.now - length (held kept) → {stored : Kept} → stored.store.ghost_name ≡ kept.store.ghost_name
          → (at k : ℕ) → at ≡ length (held kept) → k ≡ length front → stored.store.now ≡ put_mid at k kept.store.now front → stored.count ≡ at + length front
          → {r : Result Unit BadLine} → is_ok r ≡ true → Gathers (gathering (length kept.store.now) (held kept) l c) kept stored r
      unfolding gathering overlay
      gather_put h same at k there size put count taken =
          let few = held_length in
          let fits = rw is at h in
          let both : length (held kept ++ listed l c) ≡ at + k = length-append (held kept) (listed l c) ∙ rw (there, size, is) in
          let rest : drop k (drop at kept.store.now) ≡ drop (length (held kept ++ listed l c)) kept.store.now = drop-drop k at kept.store.now ∙ rw both in
          let t : all_fit (length kept.store.now) (held kept) l c ≡ true = rw (good, le-leb (length (held kept ++ listed l c)) (length kept.store.now) (omega (arith, length-append (held kept) (listed l c)))) refl in
          let front_kept : take at kept.store.now ≡ held kept = rw there kept_same in
          rw t (record {
            good = taken;
            same_store = same;
            count = count ∙ rw (there, is) (sym (length-append (held kept) (listed l c)));
            holds = put ∙ rw (front_kept, is, rest) (sym (append_assoc (held kept) (listed l c) (drop (length (held kept ++ listed l c)) kept.store.now)));
          })

-- ---- a call that uses the bytes up

module _ {x : Gathering} {kept stored : Kept} {y : Result Unit BadLine} (gathers : Gathers x kept stored y) where
  -- the bytes, read from the store
  pub gathered_read : held stored ≡ x.bytes
  gathered_read = rw (gathers.count, gathers.holds) (overlay_take x.bytes kept.store.now)

  module _ (g : Gateway) (done : Done) (before : Text) where
    -- a bad line
    pub runs_bad : is_ok y ≡ false → {r : Result Unit BadLine} → is_ok r ≡ false → Runs (using_up x g done) g kept stored before before r
    runs_bad e refused =
        let f : x.good ≡ false = sym gathers.good ∙ e in
        record {
          tells = tells_bad x.good g done before _ f refused;
          same_store = gathers.same_store;
          count = rw f gathers.count;
          holds = gathers.holds;
        }

    -- the call is made, and nothing is kept
    pub runs_using : is_ok y ≡ true → done.good ≡ true → {k : Gateway} {used : Kept} {after : Text} {r : Result Unit BadLine} → is_ok r ≡ true → used.store ≡ stored.store
        → used.count ≡ 0 → Does done k before after → Runs (using_up x g done) k kept used before after r
    runs_using e served taken same none does =
        let f : x.good ≡ true = sym gathers.good ∙ e in
        record {
          tells = tells_good x.good g done _ before _ _ f served taken does;
          same_store = rw same gathers.same_store;
          count = rw f none;
          holds = rw same gathers.holds;
        }

-- ---- a line that leaves what is kept

module _ (kept : Kept) (small : kept.count ≤ length kept.store.now) where
  pub runs_as_was : {done : Done} {g : Gateway} {before after : Text} {r : Result Unit BadLine} → Tells done g before after r
      → Runs (as_was (held kept) done) g kept kept before after r
  runs_as_was t =
      record {
        tells = t;
        same_store = refl;
        count = omega (arith, length-take kept.count kept.store.now);
        holds = sym (overlay_taken kept.count kept.store.now);
      }

  -- a line that does nothing
  pub runs_nothing : (g : Gateway) (text : Text) → Runs (as_was (held kept) (served g [])) g kept kept text text (Ok tt)
  runs_nothing g text = runs_as_was (record { gateway = refl; good = refl; text = puts_nothing text; silent = λ e. absurd cc })

  -- a line of no known call
  pub runs_unknown : (g : Gateway) (text : Text) {r : Result Unit BadLine} → is_ok r ≡ false → Runs (as_was (held kept) (bad g)) g kept kept text text r
  runs_unknown g text refused = runs_as_was (record { gateway = refl; good = refused; text = puts_nothing text; silent = λ _. refl })

-- a line that only keeps its bytes
pub runs_more : (g : Gateway) (text : Text) (l : List ℕ) (c : Place) {kept stored : Kept} {r : Result Unit BadLine}
    → Gathers (gathering (length kept.store.now) (held kept) l c) kept stored r → Runs (more_call g (length kept.store.now) (held kept) l c) g kept stored text text r
unfolding more_call
runs_more g text l c gathers =
    record {
      tells = record { gateway = refl; good = gathers.good; text = puts_nothing text; silent = λ _. refl };
      same_store = gathers.same_store;
      count = gathers.count;
      holds = gathers.holds;
    }

-- ---- a number of bytes kept that counts as the store's length

module _ (kept trimmed : Kept) (same : trimmed.store ≡ kept.store) (count : trimmed.count ≡ length (held kept)) where
  pub trimmed_small : trimmed.count ≤ length trimmed.store.now
  trimmed_small = rw (count, same) (held_length kept)

  pub trimmed_held : held trimmed ≡ held kept
  trimmed_held = rw (count, same) (kept_same kept)

  pub trimmed_length : length trimmed.store.now ≡ length kept.store.now
  trimmed_length = rw same

  pub runs_trimmed : {x : Ran} {g : Gateway} {stored : Kept} {before after : Text} {r : Result Unit BadLine} → Runs x g trimmed stored before after r
      → Runs x g kept stored before after r
  runs_trimmed t =
      record { tells = t.tells; same_store = t.same_store ∙ rw same; count = t.count; holds = t.holds ∙ rw same }
