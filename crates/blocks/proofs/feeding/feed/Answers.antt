-- `blocks::feeding::feed` meets its contract: the bytes so far, and those up to the next event.
use Prim.Native.Nat.{ℕ, ◌+◌, ◌<◌, ◌≤◌}
use mathlib.Core.Path.{◌≡◌, sym, ap, ◌∙◌}
use native.Mathlib.Omega.{arith}
use lib.ListN.{length, take, get_or}
use Rattle.lists.proofs.Arrays.{array_length, array_below}
use Rattle.tpck.specs.Frame.{places}
use Rattle.blocks.specs.Feed.{feed}
use Rattle.blocks.proofs.Noting.{numbers_few, queued_within, body_within}
use Rattle.blocks.proofs.Owned.{Listed, listed, past_row}
use Rattle.blocks.proofs.Along.{start, done, along_none, along_all, along_full, along_as, along_told, start_cut, area_length, answered_fits, answered_taken, along_answered}
use Rattle.blocks.proofs.Events.{from, from_length, Reaches, Answers, reached_some, reached_within, reached_place, rest_whole}
use Rattle.blocks.proofs.feeding.feed.Goals as goal
use Rattle.blocks.proofs.feeding.feed.Goals.{After-used, After-reach-reached, After-answer-answered, then-loop-used-test+else-space-written-ge-ROOM, else-loop-used-test}

-- ---- what the goals share

rows : (c : After-used) → Listed c.args.gateway c.used.result c.addresses-addresses.result
rows c = listed c.args.gateway _ c.well_formed.0 c.used.ensures c.addresses-addresses.ensures c.addresses-addresses.type_inv.1.0.1

reaches : (c : After-reach-reached)
    → Reaches c.loop-used.moving.control c.loop-used.body (take c.used.result c.addresses-addresses.result) c.args.bytes.now c.loop-used.used c.reach-reached.result c.reach-reached.new.body
reaches c = record { more = omega arith; reached_is = c.reach-reached.ensures.reached; rest_is = c.reach-reached.ensures.body }

place_few : (c : After-reach-reached) → c.reach-reached.result.place < 32
place_few c =
    let r = listed c.args.gateway _ c.well_formed.0 c.used.ensures c.addresses-addresses.ensures c.addresses-addresses.type_inv.1.0.1 in
    reached_place (reaches c) 32 (omega arith) (omega (arith, r.many, r.few))

answers : (c : After-answer-answered)
    → Answers c.args.gateway c.args.line c.loop-used.moving c.loop-used.body (take c.used.result c.addresses-addresses.result) c.args.bytes.now c.loop-used.used c.reach-reached.result
    c.reach-reached.new.body (get_or c.args.gateway.table.rows c.reach-reached.result.place past_row) (from c.loop-used.area c.loop-used.written) c.answer-answered.result c.answer-answered.new.area
answers c =
    let r = listed c.args.gateway _ c.well_formed.0 c.used.ensures c.addresses-addresses.ensures c.addresses-addresses.type_inv.1.0.1 in
    record {
      reaches = record { more = omega arith; reached_is = c.reach-reached.ensures.reached; rest_is = c.reach-reached.ensures.body };
      same = r.same;
      row_is = r.row_is c.reach-reached.result.place;
      long = omega (arith, from_length c.loop-used.area c.loop-used.written, area_length c.loop-used.invariant.along, c.if-space-written-ge-ROOM.true);
      answered_is = c.answer-answered.ensures.answered;
      left_is = c.answer-answered.ensures.area;
    }

-- the body keeps its places, and its first a byte
whole : (c : After-answer-answered) → (length c.reach-reached.new.body ≡ places) × (get_or c.reach-reached.new.body 0 0 < 256)
whole c = rest_whole (answers c).reaches (λ k. (c.type_inv.bytes k).fits) c.loop-used.invariant.whole

-- ---- the goals

pub slice_bounds-addresses-end : goal.slice_bounds-addresses-end
slice_bounds-addresses-end c = omega (arith, (rows c).few, c.addresses-addresses.type_inv.1.0.1)

pub slice_bounds-listed-end : goal.slice_bounds-listed-end
slice_bounds-listed-end c = sym (rows (goal.at.slice_bounds-listed-end c).After-used).many

pub loop-used-init : goal.loop-used-init
loop-used-init c = let b = c.body_of-body in
    record {
      whole = record { places_are = array_length 258 b.result _ b.type_inv; first_is = array_below 258 b.result _ b.type_inv 0 };
      along = rw (c.of-moving.ensures, b.ensures, c.none-counts.ensures) (along_none c.args.gateway c.args.line c.args.bytes.now c.args.area.now);
    }

pub offset_bounds-gateway-reached : goal.offset_bounds-gateway-reached
offset_bounds-gateway-reached c = omega (arith, place_few c)

pub bounds-gateway-reached : goal.bounds-gateway-reached
bounds-gateway-reached c = place_few c

pub overflow_add-used : goal.overflow_add-used
overflow_add-used c = omega (arith, reached_within (reaches (goal.at.overflow_add-used c).After-reach-reached), c.requires.2)

pub overflow_add-written : goal.overflow_add-written
overflow_add-written c =
    let at = (goal.at.overflow_add-written c).After-answer-answered in
    omega (arith, c.reply_length-written.ensures, answered_fits c.loop-used.invariant.along (answers at) (whole at).0)

pub add-requires : goal.add-requires
add-requires c =
    let at = (goal.at.add-requires c).After-answer-answered in
    let u = c.loop-used.invariant.along in
    let few : c.loop-used.used ≤ 4096 = omega (arith, u.within, c.requires.2) in
    record {
      numbers = numbers_few c.loop-used.counts _ u.counts_are 4096 (omega (arith, u.used, few));
      queued = omega (arith, queued_within c.loop-used.counts _ u.counts_are, u.used, few);
      body = omega (arith, body_within c.loop-used.counts _ u.counts_are u.bodies, u.used, few);
      taken = answered_taken u (answers at) (whole at).0;
    }

pub loop-used-smaller : goal.loop-used-smaller
loop-used-smaller c =
    let r = reaches (goal.at.loop-used-smaller c).After-reach-reached in
    omega (arith, reached_some r, reached_within r)

pub loop-used-preserved : goal.loop-used-preserved
loop-used-preserved c =
    let at = (goal.at.loop-used-preserved c).After-answer-answered in
    record {
      whole = record { places_are = (whole at).0; first_is = (whole at).1 };
      along = along_as (along_answered c.loop-used.invariant.along (answers at) (whole at).0) c.add.ensures (ap (λ (k : ℕ). c.loop-used.written + k) c.reply_length-written.ensures);
    }

pub returns : goal.returns
returns c =
    let a = c.args in
    let u = c.loop-used.invariant.along in
    let over : feed (start a.gateway a.line) a.line (length a.area.now) a.bytes.now ≡ done a.gateway a.line a.bytes.now (length a.area.now) c.loop-used.used = elim c.loop-used-test.branch [
      | then-loop-used-test+else-space-written-ge-ROOM w ↦ along_full u (omega (arith, w.if-space-written-ge-ROOM.false))
      | else-loop-used-test w ↦ along_all u (omega (arith, w.loop-used-test.false))
    ] in
    let b = c.body_of-body in
    let places_are = ap length (sym b.ensures) ∙ array_length 258 b.result _ b.type_inv in
    let all = start_cut a.gateway a.line a.bytes.now (length a.area.now) places_are c.requires.0 c.requires.1 ∙ over in
    let told = along_told u _ all c.into.result c.into.ensures in
    record { blocked = told.0; area = told.1 }
