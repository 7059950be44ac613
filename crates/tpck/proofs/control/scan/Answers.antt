-- `tpck::control::scan` meets its contract: inside a packet from the first byte on, or from the start that the hunt found, or hunting
-- to the end.
use Rattle.std.proofs.Common.{◌≡◌, ℕ, ◌+◌, ◌-◌, ◌≤◌, true, false, List, length, take, drop, sym, refl, ap, ◌∙◌, arith, length-drop}
use Rattle.std.proofs.lemmas.List.{take_rest}
use Rattle.tpck.specs.declared.control.Scanned.{Scanned}
use Rattle.tpck.specs.declared.control.Hunted.{Hunted}
use Rattle.tpck.specs.declared.event.Event.TheVariants.{Nothing}
use Rattle.tpck.specs.Scan.{scan, receiver_of, scanned_of}
use Rattle.tpck.proofs.Scans.{scan_used, scanned_as_lem, scanned_after, held_scan}
use Rattle.tpck.proofs.Hunts.{hunt_within, hunted_scan, scan_hunts}
use Rattle.tpck.proofs.control.scan.Goals as goal

-- what is used of the bytes after the first n is there
used_within : (line bytes : List ℕ) (n : ℕ) {x : Scanned} → n ≤ length line
    → x ≡ scanned_of (scan (receiver_of true false 0 bytes) (take (length line - n) (drop n line))) → n + x.used ≤ length line
used_within line bytes n h e =
    let r = receiver_of true false 0 bytes in
    let f = ap (λ (y : Scanned). y.used) (rw take_rest at e) in
    omega (arith, f, scan_used r (drop n line), length-drop n line)

pub returns-then-control : goal.returns-then-control
returns-then-control c =
    let a = c.args in
    held_scan a.control a.body.now (omega arith) a.line.now c.held-len.result (omega arith) true c.if-control.true _ refl c.collect.ensures.answer c.collect.ensures.body

pub slice_bounds-collect-count : goal.slice_bounds-collect-count
slice_bounds-collect-count c = rw (← c.in-Opened.ensures) at (hunt_within c.args.control.escaped c.args.line.now)

pub slice_bounds-collect-start : goal.slice_bounds-collect-start
slice_bounds-collect-start c = rw (← c.in-Opened.ensures) at (hunt_within c.args.control.escaped c.args.line.now)

pub overflow_add-result : goal.overflow_add-result
overflow_add-result c =
    let within = rw (← c.in-Opened.ensures) at (hunt_within c.args.control.escaped c.args.line.now) in
    omega (arith, used_within c.args.line.now c.args.body.now c.in-Opened.used within c.collect-collected.ensures.answer, c.well_formed.1.1.0)

pub returns-in-Opened : goal.returns-in-Opened
returns-in-Opened c =
    let a = c.args in
    let line = a.line.now in
    let len = c.held-len.result in
    let rest = scan (receiver_of true false 0 a.body.now) (drop c.in-Opened.used line) in
    let answered : c.collect-collected.result ≡ scanned_of rest = rw take_rest at c.collect-collected.ensures.answer in
    let left : c.collect-collected.new.body ≡ rest.next.bytes = rw take_rest at c.collect-collected.ensures.body in
    let hunted = scan_hunts len a.body.now (omega arith) (omega arith) a.control.escaped line ∙ ap (λ (h : Hunted). hunted_scan len a.body.now h line) (sym c.in-Opened.ensures) in
    held_scan a.control a.body.now (omega arith) line len (omega arith) false c.if-control.false _ hunted (scanned_after c.in-Opened.used rest answered) left

pub returns-in-Passed : goal.returns-in-Passed
returns-in-Passed c =
    let a = c.args in
    let line = a.line.now in
    let len = c.held-len.result in
    let hunted = scan_hunts len a.body.now (omega arith) (omega arith) a.control.escaped line ∙ ap (λ (h : Hunted). hunted_scan len a.body.now h line) (sym c.in-Passed.ensures) in
    let all = scanned_as_lem (receiver_of false c.in-Passed.escaped len a.body.now) Nothing (length line) (omega arith) refl c.answer.ensures in
    held_scan a.control a.body.now (omega arith) line len (omega arith) false c.if-control.false _ hunted all.answer refl
