-- How a reply's bytes stand in its array: service and method in front of the payload, and zeros after it. Assumes nothing.
use mathlib.Core.Path.{◌≡◌, refl, ap, ◌∙◌}
use mathlib.Core.List.{List, [], ◌∷◌, ◌++◌}
use Prim.Native.Nat.{ℕ, zero, suc, ◌+◌, ◌≤◌}
use native.Mathlib.Omega.{arith}
use native.Mathlib.Nat.{not-suc-le-zero, le_of_suc-le-suc}
use lib.ListN.{length, take, get_or}
use Rattle.trpc.specs.Bytes.{bytes_of, pad}
use Rattle.trpc.specs.Payload.{packed}
use Rattle.trpc.specs.Replies.{reply_of, encode, record_of}
use Rattle.trpc.specs.declared.payload.Payload.{Payload}
use Rattle.trpc.specs.declared.replies.Reply.{Reply}

-- a list of seven, element by element
pub seven : (l : List ℕ) → length l ≡ 7
    → l ≡ get_or l 0 0 ∷ get_or l 1 0 ∷ get_or l 2 0 ∷ get_or l 3 0 ∷ get_or l 4 0 ∷ get_or l 5 0 ∷ get_or l 6 0 ∷ []
seven [] k = absurd (omega (arith, k))
seven (a ∷ []) k = absurd (omega (arith, k))
seven (a ∷ b ∷ []) k = absurd (omega (arith, k))
seven (a ∷ b ∷ c ∷ []) k = absurd (omega (arith, k))
seven (a ∷ b ∷ c ∷ d ∷ []) k = absurd (omega (arith, k))
seven (a ∷ b ∷ c ∷ d ∷ e ∷ []) k = absurd (omega (arith, k))
seven (a ∷ b ∷ c ∷ d ∷ e ∷ f ∷ []) k = absurd (omega (arith, k))
seven (a ∷ b ∷ c ∷ d ∷ e ∷ f ∷ g ∷ []) k = refl
seven (a ∷ b ∷ c ∷ d ∷ e ∷ f ∷ g ∷ h ∷ l) k = absurd (omega (arith, k))

-- a payload encoded is the record in the struct of a reply
pub encode_packed : (service id : ℕ) (l : List ℕ) → encode service id (packed l) ≡ reply_of (record_of service id l)
encode_packed service id l =
    let n : length l + 5 ≡ length (record_of service id l) = omega arith in
    λ i. record { len = n i; bytes = service ∷ (bytes_of 4 id ++ pad 7 l) }

pub encoded_as : (r : Reply) (service id : ℕ) (p : Payload) (l : List ℕ) → r ≡ encode service id p → p ≡ packed l → r ≡ reply_of (record_of service id l)
encoded_as r service id p l h q = h ∙ ap (encode service id) q ∙ encode_packed service id l

-- the data can be read off the array
pub pad_front : (n : ℕ) (l : List ℕ) → length l ≤ n → take (length l) (pad n l) ≡ l
pad_front zero [] h = refl
pad_front (suc n) [] h = refl
pad_front zero (x ∷ l) h = absurd (not-suc-le-zero h)
pad_front (suc n) (x ∷ l) h = ap (λ (r : List ℕ). x ∷ r) (pad_front n l (le_of_suc-le-suc h))
