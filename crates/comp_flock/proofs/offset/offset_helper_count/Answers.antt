use Rattle.std.proofs.Common.{◌∙◌, ◌-◌, ◌^◌, ap, length, rules, w64, SFits}
use Rattle.std.proofs.lemmas.Int.{to_z-of_z}
use Rattle.comp_counting.specs.FlockAtoms.{enough_for}
use Rattle.comp_flock.specs.FlockLeaf.{bit_states}
use Rattle.comp_flock.proofs.offset.offset_helper_count.Goals as goal

pub returns-clause-count : goal.returns-clause-count
returns-clause-count c =
    let fits : SFits w64 c.args.bound = search rules in
    let same = to_z-of_z w64 c.args.bound fits in
    let power = c.args.power in
    c.count_set.ensures.count
    ∙ ap (λ n. length (bit_states n power)) (c.missing-missing.ensures ∙ ap (λ m. 2 ^ power - m) (c.enough_for.ensures ∙ ap enough_for same))
