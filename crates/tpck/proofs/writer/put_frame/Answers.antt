-- `tpck::writer::put_frame` meets its contract: what is written grows by one part a call, and there is room for each.
use Rattle.std.proofs.Common.{ℕ, List, [], ◌∷◌, sym, ap, ◌∙◌, append-nil, arith, rules}
use lib.Seq.{sets}
use Rattle.tpck.specs.Frame.{eof, stuffed}
use Rattle.tpck.proofs.Stuffing.{wrote_more, wrote_room, whole_length, in_parts, rest1, rest2, rest3}
use Rattle.tpck.proofs.writer.put_frame.Goals as goal

pub put_bare-requires : goal.put_bare-requires
put_bare-requires c = let a = c.args in omega (arith, whole_length a.size a.ptype a.s.now a.sum)

pub put-requires : goal.put-requires
put-requires c =
    let a = c.args in
    wrote_room c.put_bare.ensures.wrote (stuffed (a.size ∷ [])) _ (rest1 a.size a.ptype a.s.now a.sum) (omega arith)

pub put-requires-2 : goal.put-requires-2
put-requires-2 c =
    let a = c.args in
    let w1 = wrote_more c.put_bare.ensures.wrote c.put.ensures.wrote in
    wrote_room w1 (stuffed (a.ptype ∷ [])) _ (rest2 a.size a.ptype a.s.now a.sum) (omega arith)

pub put_all-requires : goal.put_all-requires
put_all-requires c =
    let a = c.args in
    let w1 = wrote_more c.put_bare.ensures.wrote c.put.ensures.wrote in
    let w2 = wrote_more w1 c.put-2.ensures.wrote in
    wrote_room w2 (stuffed a.s.now) _ (rest3 a.size a.ptype a.s.now a.sum) (omega arith)

pub put-requires-3 : goal.put-requires-3
put-requires-3 c =
    let a = c.args in
    let w1 = wrote_more c.put_bare.ensures.wrote c.put.ensures.wrote in
    let w2 = wrote_more w1 c.put-2.ensures.wrote in
    let w3 = wrote_more w2 c.put_all.ensures.wrote in
    wrote_room w3 (stuffed (a.sum ∷ [])) (eof ∷ []) (in_parts a.size a.ptype a.s.now a.sum) (omega arith)

pub put_bare-requires-2 : goal.put_bare-requires-2
put_bare-requires-2 c =
    let a = c.args in
    let w1 = wrote_more c.put_bare.ensures.wrote c.put.ensures.wrote in
    let w2 = wrote_more w1 c.put-2.ensures.wrote in
    let w3 = wrote_more w2 c.put_all.ensures.wrote in
    let w4 = wrote_more w3 c.put-3.ensures.wrote in
    wrote_room w4 (eof ∷ []) [] (in_parts a.size a.ptype a.s.now a.sum ∙ sym (append-nil _)) (omega arith)

pub returns : goal.returns
returns c =
    let a = c.args in
    let w1 = wrote_more c.put_bare.ensures.wrote c.put.ensures.wrote in
    let w2 = wrote_more w1 c.put-2.ensures.wrote in
    let w3 = wrote_more w2 c.put_all.ensures.wrote in
    let w4 = wrote_more w3 c.put-3.ensures.wrote in
    let w5 = wrote_more w4 c.put_bare-2.ensures.wrote in
    let e = w5.holds ∙ ap (λ (l : List ℕ). sets a.out.now 0 l) (sym (in_parts a.size a.ptype a.s.now a.sum)) in
    search rules ∙ e
