-- Bytes while hunting: one by one, how many are used, and what a scan comes to by them. Assumes nothing.
use Rattle.std.proofs.Common.{◌≡◌, ℕ, suc, ◌+◌, ◌≤◌, Bool, true, false, List, [], ◌∷◌, length, drop, sym, refl, ap, ◌∙◌, arith}
use Rattle.tpck.specs.declared.event.Event.TheVariants.{Nothing}
use Rattle.tpck.specs.declared.control.Hunted.{Hunted}
use Rattle.tpck.specs.declared.control.Hunted.TheVariants.{Opened, Passed}
use Rattle.tpck.specs.Sent.{pending_next}
use Rattle.tpck.specs.Scan.{Scan, scan, hunt, hunt_if, hunted_after, is_start, receiver_of}
use Rattle.tpck.proofs.Takes.{takes_sof, takes_other}
use Rattle.tpck.proofs.Scans.{scan_of, scan_after, scan_more, scan_goes, used_is}

pub hunted_none : (h : Hunted) → h ≡ hunted_after 0 h
hunted_none (Opened used) = ap Opened (omega arith)
hunted_none (Passed escaped) = refl

pub hunted_more : (m n : ℕ) (h : Hunted) → hunted_after m (hunted_after n h) ≡ hunted_after (m + n) h
hunted_more m n (Opened used) = ap Opened (omega arith)
hunted_more m n (Passed escaped) = refl

pub hunted_ended : (escaped : Bool) (n : ℕ) → hunted_after n (hunt escaped []) ≡ Passed escaped
unfolding hunt
hunted_ended escaped n = refl

module _ (escaped : Bool) (b : ℕ) (bs : List ℕ) where
  pub hunt_start : is_start escaped b ≡ true → hunt escaped (b ∷ bs) ≡ Opened 1
  unfolding hunt
  hunt_start t = ap (hunt_if (hunt (pending_next escaped b) bs)) t

  pub hunt_on : is_start escaped b ≡ false → hunt escaped (b ∷ bs) ≡ hunted_after 1 (hunt (pending_next escaped b) bs)
  unfolding hunt
  hunt_on t = ap (hunt_if (hunt (pending_next escaped b) bs)) t

-- a start that is found is there
abbrev pub Within : List ℕ → Hunted → Type 0
Within line (Opened used) = used ≤ length line
Within line (Passed escaped) = Unit {0}

pub hunt_within : (escaped : Bool) (line : List ℕ) → Within line (hunt escaped line)
unfolding hunt
hunt_within escaped [] = tt
hunt_within escaped (b ∷ bs) = go (is_start escaped b) (hunt (pending_next escaped b) bs) (hunt_within (pending_next escaped b) bs)
  where
    go : (t : Bool) (h : Hunted) → Within bs h → Within (b ∷ bs) (hunt_if h t)
    go true h w = omega arith
    go false (Opened used) w = omega arith
    go false (Passed e) w = tt

-- what a scan comes to that begins with a hunt
module _ (len : ℕ) (bytes : List ℕ) where
  -- the rest is scanned inside the packet that was opened, or all bytes were used
  abbrev pub hunted_scan : Hunted → List ℕ → Scan
  hunted_scan (Opened used) line = scan_after used (scan (receiver_of true false 0 bytes) (drop used line))
  hunted_scan (Passed escaped) line = scan_of (receiver_of false escaped len bytes) Nothing (length line)

  hunted_later : (h : Hunted) (b : ℕ) (bs : List ℕ) → scan_after 1 (hunted_scan h bs) ≡ hunted_scan (hunted_after 1 h) (b ∷ bs)
  hunted_later (Opened used) b bs =
      let e : 1 + used ≡ suc used = omega arith in
      scan_more 1 used (scan (receiver_of true false 0 bytes) (drop used bs))
      ∙ ap (λ (n : ℕ). scan_after (1 + used) (scan (receiver_of true false 0 bytes) (drop n (b ∷ bs)))) (sym e)
  hunted_later (Passed escaped) b bs = used_is (receiver_of false escaped len bytes) Nothing (omega arith)

  module _ (within : len ≤ 258) (whole : length bytes ≡ 258) where
    pub scan_hunts : (escaped : Bool) (line : List ℕ) → scan (receiver_of false escaped len bytes) line ≡ hunted_scan (hunt escaped line) line
    unfolding scan hunt
    scan_hunts escaped [] = refl
    scan_hunts escaped (b ∷ bs) = go (is_start escaped b) refl (scan_hunts (pending_next escaped b) bs)
      where
        go : (t : Bool) → is_start escaped b ≡ t
            → scan (receiver_of false (pending_next escaped b) len bytes) bs ≡ hunted_scan (hunt (pending_next escaped b) bs) bs
            → scan (receiver_of false escaped len bytes) (b ∷ bs) ≡ hunted_scan (hunt escaped (b ∷ bs)) (b ∷ bs)
        go true t e =
            scan_goes (receiver_of false escaped len bytes) b bs (takes_sof escaped len bytes within whole b t) refl
            ∙ ap (λ (h : Hunted). hunted_scan h (b ∷ bs)) (sym (hunt_start escaped b bs t))
        go false t e =
            let rest = hunt (pending_next escaped b) bs in
            scan_goes (receiver_of false escaped len bytes) b bs (takes_other escaped len bytes within whole b t) refl
            ∙ ap (scan_after 1) e
            ∙ hunted_later rest b bs
            ∙ ap (λ (h : Hunted). hunted_scan h (b ∷ bs)) (sym (hunt_on escaped b bs t))
