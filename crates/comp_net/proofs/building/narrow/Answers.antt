use Rattle.std.proofs.Common.{rules, subst, w64, SFits}
use Rattle.std.proofs.lemmas.Int.{to_z-of_z}
use Rattle.comp_threshold.specs.Built.{IsThreshold, IsWidthFault}
use Rattle.comp_net.proofs.Chosen.{not_too_wide}
use Rattle.comp_net.proofs.building.narrow.Goals as goal

pub unreachable-requires : goal.unreachable-requires
unreachable-requires c =
    let fits : SFits w64 c.args.bound = search rules in
    not_too_wide c.args.coefs.now c.args.bound c.in-Err-Fault-TooWide.field-0-0 c.requires.narrow
    (subst (λ z. IsWidthFault c.args.coefs.now z c.in-Err-Fault-TooWide.field-0-0) (to_z-of_z w64 c.args.bound fits) (rw c.in-Err-Fault-TooWide.field-0-is at c.in-Err-Fault-TooWide.ensures.wide))

pub returns-in-Ok : goal.returns-in-Ok
returns-in-Ok c =
    let fits : SFits w64 c.args.bound = search rules in
    subst (λ z. IsThreshold c.args.coefs.now z c.in-Ok.both.0 c.in-Ok.both.1) (to_z-of_z w64 c.args.bound fits) c.in-Ok.ensures.built
