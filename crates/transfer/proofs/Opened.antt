-- The bytes since a frame's SOF: its body so far with escapes, and at its EOF a valid frame. Assumes nothing.
use Prim.Native.Nat.{ℕ}
use mathlib.Core.Path.{◌≡◌, refl, sym, ap, ◌∙◌, subst}
use mathlib.Core.List.{List, [], ◌∷◌, ◌++◌, append_assoc, append-nil}
use mathlib.Core.Bool.{Bool, true, false, false≢true}
use borrow.Author.Tests.{ne_eqb}
use Rattle.lists.proofs.Clash.{clash}
use Rattle.tpck.specs.declared.event.Event.TheVariants.{Nothing}
use Rattle.tpck.specs.Event.{Told, frame_of}
use Rattle.tpck.specs.Frame.{sof, eof, esc, special, packet, Stuffing, Valid, valid}
use Rattle.tpck.specs.Receive.{State, Step, step}
use Rattle.tpck.specs.Sent.{pending_bytes}
use Rattle.tpck.specs.Explained.{Plain, after_escape, other, Explained, pending, started, restarted, early, wrong_sum, complete, idle, skipped, added, too_long}
use Rattle.tpck.proofs.Sent.{stuffing_bare, stuffing_escaped}
use Rattle.tpck.proofs.Ways.{Way, pends, opens, restarts, idles, ends_early, ends_wrong, completes, skips, adds, overflows, step_way}

-- SOF, the body so far, and the escape that is pending
pub record Opened (line : List ℕ) (e : Bool) (body : List ℕ) : Type 0 where
  pub sent : List ℕ
  pub stuffing : Stuffing body sent
  pub line_is : line ≡ sof ∷ sent ++ pending_bytes e

module _ (line : List ℕ) (b : ℕ) where
  longer : (sent more : List ℕ) → line ≡ sof ∷ sent ++ more → line ++ b ∷ [] ≡ sof ∷ sent ++ (more ++ b ∷ [])
  longer sent more e = ap (λ (l : List ℕ). l ++ b ∷ []) e ∙ ap (λ (l : List ℕ). sof ∷ l) (append_assoc sent more (b ∷ []))

  opened_escaped : {body : List ℕ} → Opened line true body → Opened (line ++ b ∷ []) false (body ++ b ∷ [])
  opened_escaped h = record {
    sent = h.sent ++ esc ∷ b ∷ [];
    stuffing = stuffing_escaped b h.stuffing;
    line_is = longer h.sent (esc ∷ []) h.line_is ∙ ap (λ (l : List ℕ). sof ∷ l) (sym (append-nil (h.sent ++ esc ∷ b ∷ [])));
  }

  opened_bare : {body : List ℕ} → special b ≡ false → Opened line false body → Opened (line ++ b ∷ []) false (body ++ b ∷ [])
  opened_bare p h = record {
    sent = h.sent ++ b ∷ [];
    stuffing = stuffing_bare b p h.stuffing;
    line_is = longer h.sent [] h.line_is ∙ ap (λ (l : List ℕ). sof ∷ l) (sym (append-nil (h.sent ++ b ∷ [])));
  }

  opened_pending : {body : List ℕ} → b ≡ esc → Opened line false body → Opened (line ++ b ∷ []) true body
  opened_pending e h = record {
    sent = h.sent;
    stuffing = h.stuffing;
    line_is = longer h.sent [] h.line_is ∙ ap (λ (c : ℕ). sof ∷ h.sent ++ c ∷ []) e;
  }

  -- a byte that tells nothing leaves the frame open
  module _ (s : State) (i : s.inside ≡ true) (o : Opened line s.escaped s.body) where
    was : (e : Bool) → s.escaped ≡ e → Opened line e s.body
    was e k = subst (λ (x : Bool). Opened line x s.body) k o

    plain_open : Plain s b → Opened (line ++ b ∷ []) false (s.body ++ b ∷ [])
    plain_open (after_escape e) = opened_escaped (was true e)
    plain_open (other x y z) = go s.escaped refl
      where
        go : (e : Bool) → s.escaped ≡ e → Opened (line ++ b ∷ []) false (s.body ++ b ∷ [])
        go true e = opened_escaped (was true e)
        go false e = opened_bare (rw (ne_eqb b sof x, ne_eqb b eof y, ne_eqb b esc z)) (was false e)

    way_open : {t : Step} → Way s b t → t.event ≡ Nothing → Opened (line ++ b ∷ []) t.next.escaped t.next.body
    way_open (pends u) e = opened_pending u.1 (was false u.0)
    way_open (opens h u) e = absurd (false≢true (sym h ∙ i))
    way_open (restarts j u) e = clash cc
    way_open (idles h u) e = absurd (false≢true (sym h ∙ i))
    way_open (ends_early j u f) e = clash cc
    way_open (ends_wrong j u f m) e = clash cc
    way_open (completes j u f m) e = clash cc
    way_open (skips h p) e = absurd (false≢true (sym h ∙ i))
    way_open (adds j p f) e = plain_open p
    way_open (overflows j p f) e = clash cc

    pub stays_open : (step s b).event ≡ Nothing → Opened (line ++ b ∷ []) (step s b).next.escaped (step s b).next.body
    stays_open e = way_open (step_way s b) e

-- and the receiver inside it
way_inside : (s : State) (b : ℕ) → s.inside ≡ true → {t : Step} → Way s b t → t.event ≡ Nothing → t.next.inside ≡ true
way_inside s b i (pends u) e = i
way_inside s b i (opens h u) e = refl
way_inside s b i (restarts j u) e = refl
way_inside s b i (idles h u) e = sym h ∙ i
way_inside s b i (ends_early j u f) e = clash cc
way_inside s b i (ends_wrong j u f m) e = clash cc
way_inside s b i (completes j u f m) e = clash cc
way_inside s b i (skips h p) e = sym h ∙ i
way_inside s b i (adds j p f) e = refl
way_inside s b i (overflows j p f) e = clash cc

pub inside_kept : (s : State) (b : ℕ) → s.inside ≡ true → (step s b).event ≡ Nothing → (step s b).next.inside ≡ true
inside_kept s b i e = way_inside s b i (step_way s b) e

-- a frame that is told is a valid one, and was open
module _ (ptype : ℕ) (bytes : List ℕ) where
  pub hunts_quiet : (s : State) (b : ℕ) {t : Told} {u : State} → s.inside ≡ false → Explained s b t u → t ≡ frame_of ptype bytes → ⊥
  hunts_quiet s b h (pending u) e = clash cc
  hunts_quiet s b h (started i u) e = clash cc
  hunts_quiet s b h (restarted i u) e = clash cc
  hunts_quiet s b h (early i u l) e = clash cc
  hunts_quiet s b h (wrong_sum k d m i u x n) e = clash cc
  hunts_quiet s b h (complete k d i u x) e = false≢true (sym h ∙ i)
  hunts_quiet s b h (idle i u) e = clash cc
  hunts_quiet s b h (skipped i p) e = clash cc
  hunts_quiet s b h (added i p l) e = clash cc
  hunts_quiet s b h (too_long i p x) e = clash cc

  pub closes_valid : (line : List ℕ) (s : State) (b : ℕ) {t : Told} {u : State} → Opened line s.escaped s.body → Explained s b t u → t ≡ frame_of ptype bytes
      → Valid ptype bytes (line ++ b ∷ [])
  closes_valid line s b h (pending u) e = clash cc
  closes_valid line s b h (started i u) e = clash cc
  closes_valid line s b h (restarted i u) e = clash cc
  closes_valid line s b h (early i u l) e = clash cc
  closes_valid line s b h (wrong_sum k d m i u x n) e = clash cc
  closes_valid line s b h (idle i u) e = clash cc
  closes_valid line s b h (skipped i p) e = clash cc
  closes_valid line s b h (added i p l) e = clash cc
  closes_valid line s b h (too_long i p x) e = clash cc
  closes_valid line s b h (complete k d i u x) e = go (subst (λ (l : List ℕ). Opened line false l) same (subst (λ (c : Bool). Opened line c s.body) u.0 h))
    where
      same : s.body ≡ packet ptype bytes
      same = x ∙ (let p : k ≡ ptype = cc in let q : d ≡ bytes = cc in rw (p, q))

      go : Opened line false (packet ptype bytes) → Valid ptype bytes (line ++ b ∷ [])
      go w =
          let l : line ++ b ∷ [] ≡ sof ∷ w.sent ++ eof ∷ [] = longer line b w.sent [] w.line_is ∙ ap (λ (c : ℕ). sof ∷ w.sent ++ c ∷ []) u.1 in
          subst (Valid ptype bytes) (sym l) (valid w.stuffing)
