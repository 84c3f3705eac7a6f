use Rattle.std.proofs.Common.{Some, None, refl}
use Rattle.tool_texts.proofs.Goes.{obeys_wider}
use Rattle.tool_rejections.proofs.Rejected.{rejected_obeys}
use Rattle.tool_proofs.specs.Settle.{OfJudged, OfBegun}
use Rattle.tool_proofs.proofs.settle.settle_begun.Goals as goal

pub returns-in-Ok : goal.returns-in-Ok
returns-in-Ok c =
    let bundle = c.args.bundle.now in
    let counts = c.args.counts.now in
    obeys_wider (OfJudged bundle counts None) (OfBegun bundle counts) (λ given of. (None, c.in-Ok.ensures.valid, of)) _ c.settle_valid.result c.settle_valid.ensures

pub returns-in-Err : goal.returns-in-Err
returns-in-Err c =
    let bundle = c.args.bundle.now in
    rejected_obeys bundle (OfBegun bundle c.args.counts.now) (λ rejected is. (Some rejected, is, refl)) c.in-Err.fault c.in-Err.ensures.fault c.rejection_of.result c.rejection_of.ensures
