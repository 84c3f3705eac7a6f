use Rattle.std.proofs.Common.{Some, None, refl}
use Rattle.tool_texts.proofs.Goes.{obeys_wider}
use Rattle.tool_rejections.proofs.Rejected.{rejected_obeys}
use Rattle.tool_proofs.specs.Show.{GivesShown, OfBundle}
use Rattle.tool_proofs.proofs.show.judge.Goals as goal

pub returns-in-Ok : goal.returns-in-Ok
returns-in-Ok c =
    let bundle = c.args.bundle.now in
    obeys_wider (GivesShown bundle) (OfBundle bundle) (λ given of. (None, c.in-Ok.ensures.valid, of)) _ c.shown.result c.shown.ensures

pub returns-in-Err : goal.returns-in-Err
returns-in-Err c =
    let bundle = c.args.bundle.now in
    rejected_obeys bundle (OfBundle bundle) (λ rejected is. (Some rejected, is, refl)) c.in-Err.fault c.in-Err.ensures.fault _ c.rejection_of.ensures
