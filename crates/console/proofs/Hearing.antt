-- What a program that listens has heard of its input and printed so far: nothing, and one block more. Assumes nothing.
use Rattle.std.proofs.Common.{◌≡◌, ℕ, List, [], ◌++◌, sym, ap, ◌∙◌, append_assoc}
use Rattle.std.specs.Prelude.{Option}
use Rattle.std.specs.Io.KnownBytes.{Consumes, Appends}
use Rattle.std.proofs.KnownBytes.{Consumes-nil, Consumes-trans, Appends-nil, Appends-trans}

-- By the lines that a listener has of some bytes: the bytes heard, which the input has lost; the lines printed; and that what is still
-- to come has the lines that it has from here on.
pub record Heard {L : Type 0} (lines : L → List ℕ → List ℕ) (first now : L) (input left : Option (List ℕ)) (output printed : Option (List ℕ)) : Type 0 where
  pub heard : List ℕ
  pub taken : Consumes input left heard
  pub told : Appends output printed (lines first heard)
  pub rest : (ys : List ℕ) → lines first (heard ++ ys) ≡ lines first heard ++ lines now ys

module _ {L : Type 0} {lines : L → List ℕ → List ℕ} {first : L} {input output : Option (List ℕ)} where
  pub heard_none : lines first [] ≡ [] → Heard lines first first input input output output
  heard_none none =
      record {
        heard = [];
        taken = Consumes-nil input;
        told = rw none (Appends-nil output);
        rest = λ ys. rw none;
      }

  pub heard_more : {now after : L} {left left₂ printed printed₂ : Option (List ℕ)} → Heard lines first now input left output printed
      → (block : List ℕ) → ((ys : List ℕ) → lines now (block ++ ys) ≡ lines now block ++ lines after ys)
      → Consumes left left₂ block → Appends printed printed₂ (lines now block)
      → Heard lines first after input left₂ output printed₂
  heard_more {now} {after} {left} {left₂} {printed} {printed₂} h block both taken told =
      record {
        heard = h.heard ++ block;
        taken = Consumes-trans input left left₂ h.heard block h.taken taken;
        told = rw (h.rest block) (Appends-trans output printed printed₂ (lines first h.heard) (lines now block) h.told told);
        rest =
            λ ys.
            ap (lines first) (append_assoc h.heard block ys) ∙ h.rest (block ++ ys)
            ∙ ap (λ (l : List ℕ). lines first h.heard ++ l) (both ys)
            ∙ sym (append_assoc (lines first h.heard) (lines now block) (lines after ys))
            ∙ ap (λ (l : List ℕ). l ++ lines after ys) (sym (h.rest block));
      }
