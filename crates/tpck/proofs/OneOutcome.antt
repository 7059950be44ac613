-- The sentences of document 01 leave one outcome: what they say of a byte is what the definition does, at every receiver. So a receiver
-- that does anything else with any byte is not explained. Assumes nothing.
use Rattle.std.proofs.Common.{◌≡◌, ℕ, ◌+◌, Bool, true, false, List, [], ◌∷◌, ◌++◌, length, take, drop, sym, refl, ap, ◌∙◌, arith, ne_eqb}
use Rattle.tpck.specs.declared.event.Drop.TheVariants.{Restarted, Early, TooLong, Checksum}
use Rattle.tpck.specs.declared.event.Event.{Event}
use Rattle.tpck.specs.declared.event.Event.TheVariants.{Nothing, Dropped, Frame}
use Rattle.tpck.specs.Event.{Told, frame_of}
use Rattle.tpck.specs.Frame.{eof, checksum, header, length_of}
use Rattle.tpck.specs.Receive.{State, Step, step, to, full, close, plain_data, told_of}
use Rattle.tpck.specs.Explained.{Inside, Unescaped, Plain, after_escape, other, Lacks, empty, short, Exact, exact, Explained, pending_in, pending, started, restarted, early, wrong_sum, complete, idle, skipped, added, too_long}
use Rattle.tpck.proofs.Bodies.{not_full, is_full_lem, close_early, close_packet, ended_full, ended_length, ended_data, ended_summed}
use Rattle.tpck.proofs.Explaining.{exact_length}
use Rattle.tpck.proofs.Steps.{step_escaped, step_esc, step_sof, step_eof, step_plain}

lacks_full : {l : List ℕ} → Lacks l → full l ≡ false
lacks_full empty = refl
lacks_full (short {n = n} {rest = rest} h) = not_full n rest h

exact_full : {l : List ℕ} → Exact l → full l ≡ true
exact_full (exact {n = n} {rest = rest} h) = is_full_lem n rest (omega arith)

module _ (s : State) (b : ℕ) where
  -- the byte did this, and left this receiver
  pub record Stepped (t : Told) (u : State) : Type 0 where
    pub did : t ≡ told_of (step s b)
    pub next : u ≡ (step s b).next

  stepped : (x : Step) → step s b ≡ x → Stepped (told_of x) x.next
  stepped x e = record { did = ap told_of (sym e); next = ap (λ (y : Step). y.next) (sym e) }

  plain_step : Plain s b → step s b ≡ plain_data s b
  plain_step (after_escape e) = step_escaped s e b
  plain_step (other x y z) = go s.escaped refl
    where
      go : (e : Bool) → s.escaped ≡ e → step s b ≡ plain_data s b
      go true e = step_escaped s e b
      go false e = step_plain s e b z x y

  end_step : Inside s → Unescaped s b eof → (v : Event) → close s.body ≡ v → step s b ≡ to false s.body v
  end_step i u v e = step_eof s u.0 b u.1 ∙ rw i (ap (to false s.body) e)

  pub only_explained : {t : Told} {u : State} → Explained s b t u → Stepped t u
  only_explained (pending u) = stepped (record { next = pending_in s; event = Nothing }) (step_esc s u.0 b u.1)
  only_explained (started h u) = stepped (to true [] Nothing) (step_sof s u.0 b u.1 ∙ rw h)
  only_explained (restarted i u) = stepped (to true [] (Dropped Restarted (length s.body))) (step_sof s u.0 b u.1 ∙ rw i)
  only_explained (early i u l) =
      let v = Dropped Early (length s.body) in
      stepped (to false s.body v) (end_step i u v (sym (close_early s.body (lacks_full l))))
  only_explained (wrong_sum ptype bytes c i u e n) =
      let v = Dropped Checksum (length bytes + 3) in
      let count = ap (Dropped Checksum) (sym (ended_length ptype bytes c)) in
      stepped (to false s.body v)
      (end_step i u v (ap close e ∙ rw (ended_full ptype bytes c, ended_summed ptype bytes c ∙ ne_eqb c (checksum (header ptype bytes)) n) count))
  only_explained (complete ptype bytes i u e) =
      let h = stepped (to false s.body (Frame ptype (length bytes))) (end_step i u (Frame ptype (length bytes)) (ap close e ∙ close_packet ptype bytes)) in
      record {
        did = ap (frame_of ptype) (sym (ap (λ (l : List ℕ). take (length bytes) (drop 2 l)) e ∙ ended_data ptype bytes (checksum (header ptype bytes)))) ∙ h.did;
        next = h.next;
      }
  only_explained (idle h u) = stepped (to false s.body Nothing) (step_eof s u.0 b u.1 ∙ rw h)
  only_explained (skipped h p) = stepped (to false s.body Nothing) (plain_step p ∙ rw h)
  only_explained (added i p l) = stepped (to true (s.body ++ b ∷ []) Nothing) (plain_step p ∙ rw (i, lacks_full l))
  only_explained (too_long i p x) =
      stepped (to false s.body (Dropped TooLong (length_of s.body + 3)))
      (plain_step p ∙ rw (i, exact_full x) (ap (λ (n : ℕ). to false s.body (Dropped TooLong n)) (sym (exact_length x))))
