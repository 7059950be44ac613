-- `tpck::control::collect` meets its contract: the bytes passed did nothing, and the rest is still to be scanned.
use Rattle.std.proofs.Common.{◌≡◌, ℕ, ◌<◌, true, length, get_or, take, sym, refl, ◌∙◌, arith, length-set}
use Rattle.tpck.specs.declared.event.Event.TheVariants.{Nothing}
use Rattle.tpck.specs.Scan.{scan, receiver_of}
use Rattle.tpck.proofs.Bodies.{full_room}
use Rattle.tpck.proofs.Takes.{takes_escape, takes_start, takes_end, takes_over, takes_added}
use Rattle.tpck.proofs.Walks.{walk_stopped, walk_went, walk_ended}
use Rattle.tpck.proofs.Scans.{scan_after, scan_more, scan_ended, scan_stops, scan_goes, close_happens, scanned_as_lem, used_is}
use Rattle.tpck.proofs.control.collect.Goals as goal
use Rattle.tpck.proofs.control.collect.Goals.{in-Escape, in-Plain+else-is_full}

pub returns-in-Start : goal.returns-in-Start
returns-in-Start c =
    let l = c.loop-i in
    let x = takes_start _ _ _ l.invariant.held l.invariant.whole _ (sym c.meaning_of.ensures ∙ c.in-Start.is) in
    let s = walk_stopped scan scan_after l.invariant.rest (omega arith) (scan_stops (receiver_of true l.pending l.n l.body) (get_or c.args.line.now l.i 0) _ x refl) in
    scanned_as_lem _ _ _ (omega arith) s c.answer.ensures

pub returns-in-End : goal.returns-in-End
returns-in-End c =
    let l = c.loop-i in
    let x = takes_end _ _ _ l.invariant.held l.invariant.whole _ (sym c.meaning_of.ensures ∙ c.in-End.is) in
    let s = walk_stopped scan scan_after l.invariant.rest (omega arith) (scan_stops (receiver_of true l.pending l.n l.body) (get_or c.args.line.now l.i 0) _ x (close_happens (take l.n l.body))) in
    scanned_as_lem _ _ _ l.invariant.held s (rw c.close.ensures at c.answer-in-End.ensures)

pub returns-then-is_full : goal.returns-then-is_full
returns-then-is_full c =
    let l = c.loop-i in
    let x = takes_over _ _ _ l.invariant.held l.invariant.whole _ (sym c.meaning_of.ensures ∙ c.in-Plain.is) (sym c.is_full.ensures ∙ c.if-is_full.true) in
    let s = walk_stopped scan scan_after l.invariant.rest (omega arith) (scan_stops (receiver_of true l.pending l.n l.body) (get_or c.args.line.now l.i 0) _ x refl) in
    scanned_as_lem _ _ _ l.invariant.held s c.answer-then-is_full.ensures

pub loop-i-preserved : goal.loop-i-preserved
loop-i-preserved c =
    let l = c.loop-i in
    let r = receiver_of true l.pending l.n l.body in
    let b : ℕ = get_or c.args.line.now l.i 0 in
    elim c.match-meaning_of.branch [
      | in-Escape w ↦
          let x = takes_escape l.pending l.n l.body l.invariant.held l.invariant.whole b (sym c.meaning_of.ensures ∙ w.in-Escape.is) in
          let goes = walk_went scan scan_after l.invariant.rest (scan_more l.i 1) (omega arith) (scan_goes r b _ x refl) in
          rw (w.n-is, w.body-is, w.pending-is) (record { held = l.invariant.held; whole = l.invariant.whole; rest = goes })
      | in-Plain+else-is_full w ↦
          let few = sym w.is_full.ensures ∙ w.if-is_full.false in
          let room : l.n < 258 = full_room _ _ (omega arith) few in
          let x = takes_added l.pending l.n l.body l.invariant.held l.invariant.whole b (sym c.meaning_of.ensures ∙ w.in-Plain.is) few room in
          let goes = walk_went scan scan_after l.invariant.rest (scan_more l.i 1) (omega arith) (scan_goes r b _ x refl) in
          rw (w.n-is, w.body-is, w.pending-is) (record { held = omega arith; whole = length-set l.body l.n b ∙ l.invariant.whole; rest = goes })
    ]

pub returns : goal.returns
returns c =
    let l = c.loop-i in
    let all : l.i ≡ length c.args.line.now = omega arith in
    let r = receiver_of true l.pending l.n l.body in
    let s = walk_ended scan scan_after l.invariant.rest all ∙ scan_ended r l.i ∙ used_is r Nothing all in
    scanned_as_lem _ _ _ l.invariant.held s c.answer-2.ensures
