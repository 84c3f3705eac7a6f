use Rattle.std.proofs.Common.{◌∙◌, ◌+◌, ap, length, arith, rules, w64, SFits}
use Rattle.std.proofs.lemmas.Int.{to_z-of_z}
use Rattle.comp_counting.specs.FlockAtoms.{enough_for}
use Rattle.comp_flock.specs.PrefixLeaf.{prefixes}
use Rattle.comp_flock.proofs.Building.{worths-counted}
use Rattle.comp_flock.proofs.worths.prefix_states.Goals as goal

pub returns : goal.returns
returns c =
    let fits : SFits w64 c.args.bound = search rules in
    let enough = c.enough_for.ensures ∙ ap enough_for (to_z-of_z w64 c.args.bound fits) in
    let ones = c.count_prefixes.ensures.ones ∙ ap (λ n. length (prefixes n (c.args.top + 1))) enough in
    let all = worths-counted (enough_for c.args.bound) c.args.top in
    omega (arith, ones, all)
