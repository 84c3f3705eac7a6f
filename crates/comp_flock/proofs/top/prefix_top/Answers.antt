use Rattle.std.proofs.Common.{◌∙◌, ap, rules, w64, SFits}
use Rattle.std.proofs.lemmas.Int.{to_z-of_z}
use Rattle.comp_counting.specs.FlockAtoms.{says_enough, enough_for}
use Rattle.comp_flock.specs.PrefixLeaf.{top_of_counted}
use Rattle.comp_flock.proofs.top.prefix_top.Goals as goal

pub returns-clause-first : goal.returns-clause-first
returns-clause-first c =
    let fits : SFits w64 c.args.bound = search rules in
    let same = to_z-of_z w64 c.args.bound fits in
    let coefs = c.args.coefs.now in
    c.top_if.ensures.first
    ∙ ap (λ says. top_of_counted says c.enough_for.result coefs) (c.says_enough.ensures ∙ ap says_enough same)
    ∙ ap (λ n. top_of_counted (says_enough c.args.bound) n coefs) (c.enough_for.ensures ∙ ap enough_for same)
