-- The round trip: a receiver with no escape pending that takes a valid frame delivers it at its last byte; every frame that is
-- written is valid. Assumes nothing.
use Rattle.std.proofs.Common.{◌≡◌, ℕ, ◌+◌, ◌-◌, ◌≤◌, Bool, true, false, List, [], ◌∷◌, ◌++◌, length, replicate, sym, refl, ap, ◌∙◌, append_assoc, append-nil, arith, length-append}
use Rattle.tpck.specs.declared.event.Event.TheVariants.{Nothing, Frame}
use Rattle.tpck.specs.Frame.{sof, eof, esc, special, stuffed, checksum, enclosed, header, packet, frame, Stuffing, none, bare, escaped, Valid, valid}
use Rattle.tpck.specs.Receive.{State, Step, step, full, plain_data, to}
use Rattle.tpck.specs.Line.{run, events, hunting, opened, opening}
use Rattle.tpck.proofs.Bodies.{not_full, close_packet}
use Rattle.tpck.proofs.Steps.{step_escaped, step_sof, step_eof, step_plain, step_esc}
use Rattle.tpck.proofs.Stuffing.{stuffed_nil, stuffed_special, stuffed_plain, not_special}

abbrev opened_pending : List ℕ → State
opened_pending p = record { inside = true; escaped = true; body = p }

-- to the receiver s the line is a frame of this type and data: its last byte completes it, nothing happens before but the drop of
-- an open packet at the first byte, and afterwards the receiver hunts, none pending, with the frame in its body
pub record Delivers (s : State) (line : List ℕ) (ptype : ℕ) (bytes : List ℕ) : Type 0 where
  pub told : events s line ≡ opening s ∷ replicate (length line - 2) Nothing ++ Frame ptype (length bytes) ∷ []
  pub hunts : run s line ≡ hunting (packet ptype bytes)

-- no byte of these does anything that is told
pub record Quiet (s : State) (bs : List ℕ) (t : State) : Type 0 where
  pub silent : events s bs ≡ replicate (length bs) Nothing
  pub ends : run s bs ≡ t

abbrev silently : State → Step
silently t = record { next = t; event = Nothing }

quiet_nil : (s : State) → Quiet s [] s
unfolding run events
quiet_nil s = record { silent = refl; ends = refl }

quiet_cons : (s t u : State) (b : ℕ) (bs : List ℕ) → step s b ≡ silently t → Quiet t bs u → Quiet s (b ∷ bs) u
unfolding run events
quiet_cons s t u b bs e q = record {
  silent = rw e (ap (λ es. Nothing ∷ es) q.silent);
  ends = rw e q.ends;
}

-- a byte of plain data, where there is room
taken : (p : List ℕ) (x : ℕ) → full p ≡ false → plain_data (opened p) x ≡ silently (opened (p ++ x ∷ []))
taken p x h = rw h

-- a byte as it may stand on the line
quiet_bare : (p : List ℕ) (x : ℕ) (line : List ℕ) (u : State) → full p ≡ false → special x ≡ false → Quiet (opened (p ++ x ∷ [])) line u → Quiet (opened p) (x ∷ line) u
quiet_bare p x line u h e q =
    quiet_cons (opened p) (opened (p ++ x ∷ [])) u x line
    (step_plain (opened p) refl x (not_special esc refl x e) (not_special sof refl x e) (not_special eof refl x e) ∙ taken p x h) q

quiet_escaped : (p : List ℕ) (x : ℕ) (line : List ℕ) (u : State) → full p ≡ false → Quiet (opened (p ++ x ∷ [])) line u → Quiet (opened p) (esc ∷ x ∷ line) u
quiet_escaped p x line u h q =
    quiet_cons (opened p) (opened_pending p) u esc (x ∷ line) (step_esc (opened p) refl esc refl)
    (quiet_cons (opened_pending p) (opened (p ++ x ∷ [])) u x line (step_escaped (opened_pending p) refl x ∙ taken p x h) q)

-- the bytes after the first
quiet_rest : (n : ℕ) (q : List ℕ) {xs line : List ℕ} → Stuffing xs line → length (n ∷ q) + length xs ≤ n + 3 → Quiet (opened (n ∷ q)) line (opened ((n ∷ q) ++ xs))
quiet_rest n q none h = rw append-nil (quiet_nil (opened (n ∷ q)))
quiet_rest n q (bare {b = x} {bs = xs} e w) h =
    quiet_bare (n ∷ q) x _ _ (not_full n q (omega arith)) e
    (rw (sym (append_assoc q (x ∷ []) xs)) (quiet_rest n (q ++ x ∷ []) w (omega (arith, length-append q (x ∷ [])))))
quiet_rest n q (escaped {b = x} {bs = xs} w) h =
    quiet_escaped (n ∷ q) x _ _ (not_full n q (omega arith))
    (rw (sym (append_assoc q (x ∷ []) xs)) (quiet_rest n (q ++ x ∷ []) w (omega (arith, length-append q (x ∷ [])))))

-- a body
quiet_body : (n : ℕ) {xs line : List ℕ} → Stuffing (n ∷ xs) line → length xs ≤ n + 2 → Quiet (opened []) line (opened (n ∷ xs))
quiet_body n (bare e w) h = quiet_bare [] n _ _ refl e (quiet_rest n [] w (omega arith))
quiet_body n (escaped w) h = quiet_escaped [] n _ _ refl (quiet_rest n [] w (omega arith))

-- a line in two parts
pub run_append : (s : State) (xs ys : List ℕ) → run s (xs ++ ys) ≡ run (run s xs) ys
unfolding run
run_append s [] ys = refl
run_append s (x ∷ xs) ys = run_append (step s x).next xs ys

pub events_append : (s : State) (xs ys : List ℕ) → events s (xs ++ ys) ≡ events s xs ++ events (run s xs) ys
unfolding run events
events_append s [] ys = refl
events_append s (x ∷ xs) ys = ap (λ es. (step s x).event ∷ es) (events_append (step s x).next xs ys)

-- any valid frame is delivered
module _ (s : State) (h : s.escaped ≡ false) (ptype : ℕ) (bytes : List ℕ) where
  module _ (line : List ℕ) (w : Stuffing (packet ptype bytes) line) where
    whole_line : List ℕ
    whole_line = sof ∷ line ++ eof ∷ []

    quiet : Quiet (opened []) line (opened (packet ptype bytes))
    quiet = quiet_body (length bytes) w (omega (arith, length-append bytes (checksum (header ptype bytes) ∷ [])))

    last : step (opened (packet ptype bytes)) eof ≡ to false (packet ptype bytes) (Frame ptype (length bytes))
    last = step_eof (opened (packet ptype bytes)) refl eof refl ∙ rw (close_packet ptype bytes)

    ends_hunting : run s whole_line ≡ hunting (packet ptype bytes)
    unfolding run whole_line
    ends_hunting =
        ap (λ (t : Step). run t.next (line ++ eof ∷ [])) (step_sof s h sof refl)
        ∙ run_append (opened []) line (eof ∷ [])
        ∙ ap (λ (t : State). run t (eof ∷ [])) quiet.ends
        ∙ ap (λ (t : Step). t.next) last

    after_start : events (opened []) (line ++ eof ∷ []) ≡ replicate (length line) Nothing ++ Frame ptype (length bytes) ∷ []
    unfolding run events
    after_start =
        events_append (opened []) line (eof ∷ [])
        ∙ ap (λ es. es ++ events (run (opened []) line) (eof ∷ [])) quiet.silent
        ∙ ap (λ (t : State). replicate (length line) Nothing ++ events t (eof ∷ [])) quiet.ends
        ∙ ap (λ (t : Step). replicate (length line) Nothing ++ t.event ∷ []) last

    all_told : events s whole_line ≡ opening s ∷ replicate (length whole_line - 2) Nothing ++ Frame ptype (length bytes) ∷ []
    unfolding events whole_line
    all_told =
        let n : length line ≡ length whole_line - 2 = omega (arith, length-append line (eof ∷ [])) in
        ap (λ (t : Step). t.event ∷ events t.next (line ++ eof ∷ [])) (step_sof s h sof refl)
        ∙ ap (λ es. opening s ∷ es) after_start
        ∙ ap (λ (k : ℕ). opening s ∷ replicate k Nothing ++ Frame ptype (length bytes) ∷ []) n

    delivers : Delivers s whole_line ptype bytes
    delivers = record {
      told = all_told;
      hunts = ends_hunting;
    }

  pub valid_delivered : {line : List ℕ} → Valid ptype bytes line → Delivers s line ptype bytes
  unfolding whole_line
  valid_delivered (valid {line = l} w) = delivers l w

-- what the writer's definition puts on the line is valid
pub stuffed_stuffing : (xs : List ℕ) → Stuffing xs (stuffed xs)
stuffed_stuffing [] = rw stuffed_nil none
stuffed_stuffing (x ∷ xs) = go (special x) refl (stuffed_stuffing xs)
  where
    go : (t : Bool) → special x ≡ t → Stuffing xs (stuffed xs) → Stuffing (x ∷ xs) (stuffed (x ∷ xs))
    go true e w = rw (stuffed_special x xs e) (escaped w)
    go false e w = rw (stuffed_plain x xs e) (bare e w)

pub frame_valid : (ptype : ℕ) (bytes : List ℕ) → Valid ptype bytes (frame ptype bytes)
unfolding enclosed
frame_valid ptype bytes = valid (stuffed_stuffing (packet ptype bytes))
