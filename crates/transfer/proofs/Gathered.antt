-- The writer's calls for each place in turn, one behind the other, give the bytes of the whole list; so does the reader of them
-- give back the values and rows. Assumes nothing.
use mathlib.Core.Path.{◌≡◌, refl, sym, ap, ◌∙◌}
use mathlib.Core.Bool.{true, false}
use mathlib.Core.List.{List, [], ◌∷◌, ◌++◌, append-nil}
use Prim.Native.Nat.{ℕ, zero, suc, ◌+◌, ◌*◌, ◌<◌, ◌≤◌}
use native.Mathlib.Omega.{arith}
use lib.ListN.{length, get_or, take, length-append, length-map}
use lib.Seq.{take-suc, take_all}
use borrow.Author.Tests.{lt-leb}
use Rattle.lists.specs.Filter.{All, any}
use Rattle.devices.specs.declared.row.Row.{Row}
use Rattle.std.specs.Prelude.{Ok}
use Rattle.devices.specs.Row.{keeps_rules}
use Rattle.devices.specs.Table.{addressed, row_answer}
use Rattle.gateway.specs.State.{State, Result}
use Rattle.gateway.specs.Reply.{on_line}
use Rattle.transfer.specs.Contents.{contents, lines}
use Rattle.transfer.specs.Hand.{HandAnswer, line_at, hand}
use Rattle.transfer.specs.Reading.{read}
use Rattle.transfer.specs.Ready.{OwnAddresses, Ready}
use Rattle.transfer.specs.Statement.{Addable, gathered, HandedOver}
use Rattle.transfer.proofs.Handing.{hand_line_lem}
use Rattle.transfer.proofs.Placing.{contents_length}
use Rattle.transfer.proofs.Carried.{joined, joined_append, round_trip}

-- what a call writes where nothing waits and there is n
writes : (g : State) (place n : ℕ) → g.queue ≡ [] → 32 ≤ n → (hand g place n).reply ≡ line_at g place
writes g place n e h = ap (λ (x : Result HandAnswer). x.reply) (hand_line_lem g place n h e)

joined_one : (l : List ℕ) → joined (l ∷ []) ≡ l
joined_one l = append-nil l

gathered_front : (g : State) (n : ℕ) → g.queue ≡ [] → 32 ≤ n → (k : ℕ) → k ≤ length (lines g.properties g.table)
    → gathered g n k ≡ joined (take k (lines g.properties g.table))
unfolding line_at
gathered_front g n e h zero m = refl
gathered_front g n e h (suc k) m =
    let l = lines g.properties g.table in
    ap (λ (z : List ℕ). z ++ (hand g k n).reply) (gathered_front g n e h k (omega arith))
    ∙ ap (λ (z : List ℕ). joined (take k l) ++ z) (writes g k n e h ∙ sym (joined_one (get_or l k [])))
    ∙ sym (joined_append (take k l) (get_or l k [] ∷ []))
    ∙ ap joined (sym (take-suc l k [] (omega arith)))

gathered_all : (g : State) (n : ℕ) → g.queue ≡ [] → 32 ≤ n
    → gathered g n (5 + 26 * length g.table) ≡ joined (lines g.properties g.table)
unfolding lines
gathered_all g n e h =
    let l = lines g.properties g.table in
    let m : length l ≡ 5 + 26 * length g.table = length-map (contents g.properties g.table) on_line ∙ contents_length g.properties g.table in
    gathered_front g n e h (5 + 26 * length g.table) (omega arith)
    ∙ ap joined (take_all (5 + 26 * length g.table) l (omega arith))

answer_done : (k : List Row) (r : Row) → keeps_rules r ≡ true → any (addressed r.address) k ≡ false → length k < 32 → row_answer k r ≡ Ok tt
unfolding row_answer
answer_done k r a d h = rw (a, d, lt-leb 32 (length k) h)

-- rows that keep the rules, with addresses of their own, are added one after the other
addable : (k l : List Row) → All (λ r. keeps_rules r ≡ true) l → OwnAddresses k l → length k + length l ≤ 32 → Addable k l
addable k [] a d h = tt
addable k (r ∷ l) a d h =
    (answer_done k r a.0 d.0 (omega arith), addable (k ++ r ∷ []) l a.1 d.1 (omega (arith, length-append k (r ∷ []))))

-- Round trip: the writer's frames, all, in order, with the right count, are accepted and give the same values and rows
pub handed_over : (g : State) → Ready g → HandedOver g
handed_over g r = record {
  result = λ f p n h.
      ap (read f p (length g.table)) (gathered_all g n r.none_waits h)
      ∙ round_trip f p g.properties g.table r.values r.fits (addable [] g.table r.rules r.own_addresses (omega (arith, r.few))) r.few;
}
