-- `transfer::contents::content_of` meets its contract: service and method in front of the payload.
use Rattle.trpc.proofs.Packing.{encoded_as}
use Rattle.transfer.specs.Contents.{payload_of, content_of}
use Rattle.transfer.proofs.contents.content_of.Goals as goal

pub returns : goal.returns
unfolding content_of
returns c = let a = c.args in
    encoded_as _ a.slot.service a.slot.id _ (payload_of a.draft a.slot.item) c.encode.ensures c.payload_of.ensures
