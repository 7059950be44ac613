-- `tpck::checksum::checksum_of` meets its contract: the wrapping sum of all bytes.
use Rattle.std.proofs.Common.{◌≡◌, ◌+◌, ◌%◌, ◌^◌, ◌∙◌, fold, rules}
use Rattle.tpck.proofs.Sums.{checksum_folds}
use Rattle.tpck.proofs.checksum.checksum_of.Goals as goal

pub returns : goal.returns
returns c =
    let e : c.fold.result ≡ fold (λ a b. (a + b) % 2 ^ 8) 0 c.args.s.now = search rules in
    e ∙ checksum_folds c.args.s.now
