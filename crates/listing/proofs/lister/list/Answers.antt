-- `listing::lister::list` meets its contract: the lines so far are those of the bytes used, event by event.
use Rattle.std.proofs.Common.{◌≡◌, ℕ, ◌+◌, ◌-◌, ◌%◌, ◌^◌, ◌<◌, length, get_or, take, sym, refl, ap, ◌∙◌, arith}
use Rattle.lists.proofs.Arrays.{array_length, array_below}
use Rattle.tpck.specs.Frame.{places}
use Rattle.updates.specs.declared.line.Line.TheVariants.{Controller}
use Rattle.blocks.proofs.Owned.{Listed, listed, past_row}
use Rattle.blocks.proofs.Along.{start_view}
use Rattle.blocks.proofs.Events.{Reaches, Answers, reached_some, reached_within, reached_place, rest_whole}
use Rattle.text.proofs.Reports.{used_none, used_more, used_all}
use Rattle.listing.proofs.Answers.{next_is, line_is}
use Rattle.listing.proofs.lister.list.Goals as goal
use Rattle.listing.proofs.lister.list.Goals.{After-used, After-reach-reached, After-answer-answered}

-- ---- what the goals share

rows : (c : After-used) → Listed c.args.gateway c.used.result c.addresses-addresses.result
rows c = listed c.args.gateway _ c.well_formed.0 c.used.ensures c.addresses-addresses.ensures c.addresses-addresses.type_inv.1.0.1

reaches : (c : After-reach-reached)
    → Reaches c.loop-used.moving.control c.loop-used.body (take c.used.result c.addresses-addresses.result) c.args.bytes.now c.loop-used.used c.reach-reached.result c.reach-reached.new.body
reaches c = record { more = omega arith; reached_is = c.reach-reached.ensures.reached; rest_is = c.reach-reached.ensures.body }

place_few : (c : After-reach-reached) → c.reach-reached.result.place < 32
place_few c =
    let r = listed c.args.gateway _ c.well_formed.0 c.used.ensures c.addresses-addresses.ensures c.addresses-addresses.type_inv.1.0.1 in
    reached_place (reaches c) 32 (omega arith) (omega (arith, r.many, r.few))

answers : (c : After-answer-answered)
    → Answers c.args.gateway Controller c.loop-used.moving c.loop-used.body (take c.used.result c.addresses-addresses.result) c.args.bytes.now c.loop-used.used c.reach-reached.result
    c.reach-reached.new.body (get_or c.args.gateway.table.rows c.reach-reached.result.place past_row) c.loop-used.reply c.answer-answered.result c.answer-answered.new.area
answers c =
    let r = listed c.args.gateway _ c.well_formed.0 c.used.ensures c.addresses-addresses.ensures c.addresses-addresses.type_inv.1.0.1 in
    record {
      reaches = record { more = omega arith; reached_is = c.reach-reached.ensures.reached; rest_is = c.reach-reached.ensures.body };
      same = r.same;
      row_is = r.row_is c.reach-reached.result.place;
      long = omega (arith, c.loop-used.invariant.room);
      answered_is = c.answer-answered.ensures.answered;
      left_is = c.answer-answered.ensures.area;
    }

-- ---- the goals

pub loop-used-init : goal.loop-used-init
loop-used-init c = let b = c.body_of-body in
    let long = array_length 258 b.result _ b.type_inv in
    record {
      room = refl;
      whole = record { places_are = long; first_is = array_below 258 b.result _ b.type_inv 0 };
      used = rw (c.of-moving.ensures, b.ensures, start_view c.args.gateway Controller (ap length (sym b.ensures) ∙ long)) (used_none c.args.text.now);
    }

pub slice_bounds-addresses-end : goal.slice_bounds-addresses-end
slice_bounds-addresses-end c = omega (arith, (rows c).few, c.addresses-addresses.type_inv.1.0.1)

pub slice_bounds-listed-end : goal.slice_bounds-listed-end
slice_bounds-listed-end c = sym (rows (goal.at.slice_bounds-listed-end c).After-used).many

pub offset_bounds-gateway-reached : goal.offset_bounds-gateway-reached
offset_bounds-gateway-reached c = omega (arith, place_few c)

pub bounds-gateway-reached : goal.bounds-gateway-reached
bounds-gateway-reached c = place_few c

pub overflow_add-used : goal.overflow_add-used
overflow_add-used c = omega (arith, reached_within (reaches (goal.at.overflow_add-used c).After-reach-reached))

pub overflow_sub-last : goal.overflow_sub-last
overflow_sub-last c = omega (arith, reached_some (reaches (goal.at.overflow_sub-last c).After-reach-reached))

pub loop-used-smaller : goal.loop-used-smaller
loop-used-smaller c =
    let r = reaches (goal.at.loop-used-smaller c).After-reach-reached in
    omega (arith, reached_some r, reached_within r)

pub loop-used-preserved : goal.loop-used-preserved
loop-used-preserved c =
    let h = answers (goal.at.loop-used-preserved c).After-answer-answered in
    let l = c.loop-used in
    let n = c.reach-reached.result.used in
    let whole : (length c.reach-reached.new.body ≡ places) × (get_or c.reach-reached.new.body 0 0 < 256) = rest_whole h.reaches (λ k. (c.type_inv.bytes k).fits) l.invariant.whole in
    let some = reached_some h.reaches in
    let last : c.args.offset + (l.used + n - 1) ≡ c.args.offset + l.used + (n - 1) = omega (arith, some) in
    let line = line_is h whole.0 (c.args.offset + l.used) _ (ap (λ (k : ℕ). k % 2 ^ 64) last) in
    record {
      room = c.answer-answered.auto.area ∙ l.invariant.room;
      whole = record { places_are = whole.0; first_is = whole.1 };
      used = used_more l.invariant.used n some (reached_within h.reaches) (next_is h whole.0) (rw line at c.answer_line.ensures.line) (rw line at c.answer_line.ensures.short);
    }

pub returns : goal.returns
returns c =
    let u = used_all c.loop-used.invariant.used (omega arith) refl in
    record { after = rw c.into.ensures (ap (λ k. k.state) u.0); lines = u.1.0; short = u.1.1 }
