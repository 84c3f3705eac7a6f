use Rattle.std.proofs.Common.{◌∙◌, ap, rules, w64, SFits}
use Rattle.std.specs.Prelude.{is_some}
use Rattle.std.proofs.lemmas.Int.{to_z-of_z}
use Rattle.comp_flock.specs.PrefixLeaf.{prefix_top}
use Rattle.comp_net.proofs.choice.is_alone.Goals as goal

pub returns : goal.returns
returns c =
    let fits : SFits w64 c.args.bound = search rules in
    c.is_some.ensures ∙ ap is_some (c.prefix_top.ensures.first ∙ ap (prefix_top c.args.coefs.now) (to_z-of_z w64 c.args.bound fits))
