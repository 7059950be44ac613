-- The ways that a byte can go: what document 01 tests of the receiver and the byte, and the step that it then is. `step_way` says that
-- each step is one of them; every law about a step goes by these cases. Assumes nothing.
use Rattle.std.proofs.Common.{◌≡◌, ℕ, Bool, true, false, eqb, [], ◌∷◌, ◌++◌, length, sym, refl, subst, eqb-true}
use borrow.Author.Tests.{eqb-false}
use Rattle.tpck.specs.declared.event.Drop.TheVariants.{Restarted, Early, TooLong, Checksum}
use Rattle.tpck.specs.declared.event.Event.TheVariants.{Nothing, Dropped, Frame}
use Rattle.tpck.specs.Frame.{sof, eof, esc, type_of, length_of}
use Rattle.tpck.specs.Receive.{State, Step, step, full, summed, to, plain_data, start_of_frame, end_of_frame}
use Rattle.tpck.specs.Explained.{Inside, Hunting, Unescaped, Plain, after_escape, other, pending_in}
use Rattle.tpck.proofs.Steps.{step_escaped, step_esc, step_sof, step_eof, step_plain}

pub data Way (s : State) (b : ℕ) : Step → Type 0 where
  pends : Unescaped s b esc → Way s b (record { next = pending_in s; event = Nothing })
  opens : Hunting s → Unescaped s b sof → Way s b (to true [] Nothing)
  restarts : Inside s → Unescaped s b sof → Way s b (to true [] (Dropped Restarted (length s.body)))
  idles : Hunting s → Unescaped s b eof → Way s b (to false s.body Nothing)
  ends_early : Inside s → Unescaped s b eof → full s.body ≡ false → Way s b (to false s.body (Dropped Early (length s.body)))
  ends_wrong : Inside s → Unescaped s b eof → full s.body ≡ true → summed s.body ≡ false → Way s b (to false s.body (Dropped Checksum (length s.body)))
  completes : Inside s → Unescaped s b eof → full s.body ≡ true → summed s.body ≡ true
      → Way s b (to false s.body (Frame (type_of s.body) (length_of s.body)))
  skips : Hunting s → Plain s b → Way s b (to false s.body Nothing)
  adds : Inside s → Plain s b → full s.body ≡ false → Way s b (to true (s.body ++ b ∷ []) Nothing)
  overflows : Inside s → Plain s b → full s.body ≡ true → Way s b (to false s.body (Dropped TooLong (length s.body)))

module _ (s : State) (b : ℕ) where
  -- a step that is this one goes its way
  by : {t u : Step} → Way s b u → t ≡ u → Way s b t
  by w e = subst (Way s b) (sym e) w

  plain_way : Plain s b → Way s b (plain_data s b)
  plain_way p = go s.inside refl (full s.body) refl
    where
      go : (i : Bool) → s.inside ≡ i → (f : Bool) → full s.body ≡ f → Way s b (plain_data s b)
      go true i true f = by (overflows i p f) (rw (i, f))
      go true i false f = by (adds i p f) (rw (i, f))
      go false i f e = by (skips i p) (rw i)

  start_way : Unescaped s b sof → Way s b (start_of_frame s)
  start_way u = go s.inside refl
    where
      go : (i : Bool) → s.inside ≡ i → Way s b (start_of_frame s)
      go true i = by (restarts i u) (rw i)
      go false i = by (opens i u) (rw i)

  end_way : Unescaped s b eof → Way s b (end_of_frame s)
  end_way u = go s.inside refl (full s.body) refl (summed s.body) refl
    where
      go : (i : Bool) → s.inside ≡ i → (f : Bool) → full s.body ≡ f → (m : Bool) → summed s.body ≡ m → Way s b (end_of_frame s)
      go true i true f true m = by (completes i u f m) (rw (i, f, m))
      go true i true f false m = by (ends_wrong i u f m) (rw (i, f, m))
      go true i false f m e = by (ends_early i u f) (rw (i, f))
      go false i f e m d = by (idles i u) (rw i)

  pub step_way : Way s b (step s b)
  step_way = go s.escaped refl (eqb b esc) refl (eqb b sof) refl (eqb b eof) refl
    where
      go : (e : Bool) → s.escaped ≡ e → (x : Bool) → eqb b esc ≡ x → (y : Bool) → eqb b sof ≡ y → (z : Bool) → eqb b eof ≡ z → Way s b (step s b)
      go true e x p y q z r = by (plain_way (after_escape e)) (step_escaped s e b)
      go false e true p y q z r = let h = eqb-true b esc p in by (pends (e, h)) (step_esc s e b h)
      go false e false p true q z r = let h = eqb-true b sof q in by (start_way (e, h)) (step_sof s e b h)
      go false e false p false q true r = let h = eqb-true b eof r in by (end_way (e, h)) (step_eof s e b h)
      go false e false p false q false r =
          let x = eqb-false b esc p in
          let y = eqb-false b sof q in
          let z = eqb-false b eof r in
          by (plain_way (other y z x)) (step_plain s e b x y z)
