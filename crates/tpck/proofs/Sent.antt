-- What a receiver delivers was sent: an escape is pending where the line says so, and the body of an open packet is what the line has
-- held since its SOF, escapes taken out; so a frame that is delivered is a valid frame at the end of the line. Assumes nothing.
use Rattle.std.proofs.Common.{◌≡◌, ℕ, Bool, true, false, eqb, List, [], ◌∷◌, ◌++◌, sym, refl, ap, ◌∙◌, subst, append_assoc, append-nil, ne_eqb}
use mathlib.Core.List.{foldl-append}
use mathlib.Core.Bool.{false≢true}
use Rattle.lists.proofs.Clash.{clash}
use Rattle.tpck.specs.Event.{Told, frame_of}
use Rattle.tpck.specs.Frame.{sof, eof, esc, special, packet, Stuffing, none, bare, escaped, valid}
use Rattle.tpck.specs.Receive.{State, Step, step}
use Rattle.tpck.specs.Sent.{pending_next, pending_after, Since, EndsIn, ends}
use Rattle.tpck.specs.Explained.Plain.{after_escape, other}
use Rattle.tpck.specs.Explained.{Unescaped, Plain, Explained, pending, started, restarted, early, wrong_sum, complete, idle, skipped, added, too_long}
use Rattle.tpck.proofs.Ways.{Way, pends, opens, restarts, idles, ends_early, ends_wrong, completes, skips, adds, overflows, step_way}

-- one byte more, without an escape and with one
pub stuffing_bare : {xs line : List ℕ} (b : ℕ) → special b ≡ false → Stuffing xs line → Stuffing (xs ++ b ∷ []) (line ++ b ∷ [])
stuffing_bare b e none = bare e none
stuffing_bare b e (bare h w) = bare h (stuffing_bare b e w)
stuffing_bare b e (escaped w) = escaped (stuffing_bare b e w)

pub stuffing_escaped : {xs line : List ℕ} (b : ℕ) → Stuffing xs line → Stuffing (xs ++ b ∷ []) (line ++ esc ∷ b ∷ [])
stuffing_escaped b none = escaped none
stuffing_escaped b (bare h w) = bare h (stuffing_escaped b w)
stuffing_escaped b (escaped w) = escaped (stuffing_escaped b w)

-- what the line tells of the receiver after it: whether an escape is pending, and what the body of an open packet is
pub record Tracked (line : List ℕ) (s : State) : Type 0 where
  pub escape : s.escaped ≡ pending_after line
  pub body : s.inside ≡ true → Since line s.escaped s.body

module _ (line : List ℕ) (b : ℕ) where
  -- the body of the packet that a receiver has open after one more byte
  abbrev Open : State → Type 0
  Open t = t.inside ≡ true → Since (line ++ b ∷ []) t.escaped t.body

  longer : (before sent more : List ℕ) → line ≡ before ++ (sof ∷ sent ++ more) → line ++ b ∷ [] ≡ before ++ (sof ∷ sent ++ (more ++ b ∷ []))
  longer before sent more e =
      ap (λ (l : List ℕ). l ++ b ∷ []) e
      ∙ append_assoc before (sof ∷ sent ++ more) (b ∷ [])
      ∙ ap (λ (l : List ℕ). before ++ sof ∷ l) (append_assoc sent more (b ∷ []))

  -- a byte of plain data, after an escape or not
  since_escaped : {body : List ℕ} → Since line true body → Since (line ++ b ∷ []) false (body ++ b ∷ [])
  since_escaped h = record {
    before = h.before;
    sent = h.sent ++ esc ∷ b ∷ [];
    unescaped = h.unescaped;
    stuffing = stuffing_escaped b h.stuffing;
    line_is = longer h.before h.sent (esc ∷ []) h.line_is ∙ ap (λ (l : List ℕ). h.before ++ sof ∷ l) (sym (append-nil (h.sent ++ esc ∷ b ∷ [])));
  }

  since_bare : {body : List ℕ} → special b ≡ false → Since line false body → Since (line ++ b ∷ []) false (body ++ b ∷ [])
  since_bare p h = record {
    before = h.before;
    sent = h.sent ++ b ∷ [];
    unescaped = h.unescaped;
    stuffing = stuffing_bare b p h.stuffing;
    line_is = longer h.before h.sent [] h.line_is ∙ ap (λ (l : List ℕ). h.before ++ sof ∷ l) (sym (append-nil (h.sent ++ b ∷ [])));
  }

  since_pending : {body : List ℕ} → b ≡ esc → Since line false body → Since (line ++ b ∷ []) true body
  since_pending e h = record {
    before = h.before;
    sent = h.sent;
    unescaped = h.unescaped;
    stuffing = h.stuffing;
    line_is = longer h.before h.sent [] h.line_is ∙ ap (λ (c : ℕ). h.before ++ (sof ∷ h.sent ++ c ∷ [])) e;
  }

  since_start : pending_after line ≡ false → b ≡ sof → Since (line ++ b ∷ []) false []
  since_start u e = record { before = line; sent = []; unescaped = u; stuffing = none; line_is = ap (λ (c : ℕ). line ++ c ∷ []) e }

  -- the escape that is pending after one more byte
  pending_more : pending_after (line ++ b ∷ []) ≡ pending_next (pending_after line) b
  unfolding pending_after
  pending_more = foldl-append pending_next false line (b ∷ [])

  module _ (s : State) where
    -- the next escape, by whether one is pending and what the byte is
    plain_escape : Plain s b → false ≡ pending_next s.escaped b
    plain_escape (after_escape e) = rw e
    plain_escape (other x y z) = go s.escaped
      where
        go : (e : Bool) → false ≡ pending_next e b
        go true = refl
        go false = sym (ne_eqb b esc z)

    bare_escape : (value : ℕ) → Unescaped s b value → eqb value esc ≡ pending_next s.escaped b
    bare_escape value u = rw (u.0, u.1)

    way_escape : {t : Step} → Way s b t → t.next.escaped ≡ pending_next s.escaped b
    way_escape (pends u) = bare_escape esc u
    way_escape (opens h u) = bare_escape sof u
    way_escape (restarts i u) = bare_escape sof u
    way_escape (idles h u) = bare_escape eof u
    way_escape (ends_early i u f) = bare_escape eof u
    way_escape (ends_wrong i u f m) = bare_escape eof u
    way_escape (completes i u f m) = bare_escape eof u
    way_escape (skips h p) = plain_escape p
    way_escape (adds i p f) = plain_escape p
    way_escape (overflows i p f) = plain_escape p

    module _ (h : Tracked line s) where
      since : (e : Bool) → s.escaped ≡ e → s.inside ≡ true → Since line e s.body
      since e k i = subst (λ (x : Bool). Since line x s.body) k (h.body i)

      start_since : Unescaped s b sof → Since (line ++ b ∷ []) false []
      start_since u = since_start (sym h.escape ∙ u.0) u.1

      plain_since : s.inside ≡ true → Plain s b → Since (line ++ b ∷ []) false (s.body ++ b ∷ [])
      plain_since i (after_escape e) = since_escaped (since true e i)
      plain_since i (other x y z) = go s.escaped refl
        where
          go : (e : Bool) → s.escaped ≡ e → Since (line ++ b ∷ []) false (s.body ++ b ∷ [])
          go true e = since_escaped (since true e i)
          go false e = since_bare (rw (ne_eqb b sof x, ne_eqb b eof y, ne_eqb b esc z)) (since false e i)

      way_since : {t : Step} → Way s b t → Open t.next
      way_since (pends u) = λ i. since_pending u.1 (since false u.0 i)
      way_since (opens k u) = λ i. start_since u
      way_since (restarts i u) = λ j. start_since u
      way_since (idles k u) = λ i. absurd (false≢true i)
      way_since (ends_early i u f) = λ j. absurd (false≢true j)
      way_since (ends_wrong i u f m) = λ j. absurd (false≢true j)
      way_since (completes i u f m) = λ j. absurd (false≢true j)
      way_since (skips k p) = λ i. absurd (false≢true i)
      way_since (adds i p f) = λ j. plain_since i p
      way_since (overflows i p f) = λ j. absurd (false≢true j)

    pub step_tracked : Tracked line s → Tracked (line ++ b ∷ []) (step s b).next
    step_tracked h = record {
      escape = way_escape (step_way s b) ∙ ap (λ (e : Bool). pending_next e b) h.escape ∙ sym pending_more;
      body = way_since h (step_way s b);
    }

-- a frame is explained only as complete
module _ (ptype : ℕ) (bytes : List ℕ) where
  pub frame_sent : (line : List ℕ) (s : State) (b : ℕ) {t : Told} {u : State} → Tracked line s → Explained s b t u → t ≡ frame_of ptype bytes → EndsIn ptype bytes (line ++ b ∷ [])
  frame_sent line s b h (pending u) e = clash cc
  frame_sent line s b h (started i u) e = clash cc
  frame_sent line s b h (restarted i u) e = clash cc
  frame_sent line s b h (early i u l) e = clash cc
  frame_sent line s b h (wrong_sum k d m i u x n) e = clash cc
  frame_sent line s b h (idle i u) e = clash cc
  frame_sent line s b h (skipped i p) e = clash cc
  frame_sent line s b h (added i p l) e = clash cc
  frame_sent line s b h (too_long i p x) e = clash cc
  frame_sent line s b h (complete k d i u x) e = go (sent_of h i)
    where
      sent_of : Tracked line s → s.inside ≡ true → Since line false (packet ptype bytes)
      sent_of f j =
          let same : s.body ≡ packet ptype bytes = x ∙ (let p : k ≡ ptype = cc in let q : d ≡ bytes = cc in rw (p, q)) in
          subst (λ (l : List ℕ). Since line false l) same (subst (λ (c : Bool). Since line c s.body) u.0 (f.body j))

      go : Since line false (packet ptype bytes) → EndsIn ptype bytes (line ++ b ∷ [])
      go w =
          let l : line ++ b ∷ [] ≡ w.before ++ (sof ∷ w.sent ++ eof ∷ []) =
          longer line b w.before w.sent [] w.line_is ∙ ap (λ (c : ℕ). w.before ++ (sof ∷ w.sent ++ c ∷ [])) u.1 in
          subst (EndsIn ptype bytes) (sym l) (ends w.before w.unescaped (valid w.stuffing))
