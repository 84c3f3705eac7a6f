use Rattle.std.proofs.Common.{◌∙◌, ap, sym, rules, w64, SFits}
use Rattle.std.proofs.lemmas.Int.{to_z-of_z}
use Rattle.comp_counting.specs.FlockAtoms.{power_of, offset_power}
use Rattle.comp_flock.specs.PrefixLeaf.{prefix_top}
use Rattle.comp_powers_leaf.specs.PowersRange.{powers_range}
use Rattle.comp_net.specs.declared.choice.NetLeaves.{NetLeaves}
use Rattle.comp_net.specs.declared.choice.LessLeaf.{LessLeaf}
use Rattle.comp_net.specs.Atoms.{flock_or_threshold, offset_or, prefix_or_none, powers_or_none, less_leaf_for}
use Rattle.comp_net.proofs.choice.less_leaf.Goals as goal

pub returns-in-Flocks : goal.returns-in-Flocks
returns-in-Flocks c =
    let fits : SFits w64 c.args.bound = search rules in
    c.by_power.ensures
    ∙ ap flock_or_threshold (c.flock_power.ensures ∙ ap (power_of c.args.coefs.now) (to_z-of_z w64 c.args.bound fits))
    ∙ sym (ap (λ (choice : NetLeaves). less_leaf_for choice c.args.coefs.now c.args.bound) c.in-Flocks.is)

pub returns-in-Alone : goal.returns-in-Alone
returns-in-Alone c =
    let fits : SFits w64 c.args.bound = search rules in
    c.by_top.ensures
    ∙ ap prefix_or_none (c.prefix_top.ensures.first ∙ ap (prefix_top c.args.coefs.now) (to_z-of_z w64 c.args.bound fits))
    ∙ sym (ap (λ (choice : NetLeaves). less_leaf_for choice c.args.coefs.now c.args.bound) c.in-Alone.is)

pub returns-in-Helped : goal.returns-in-Helped
returns-in-Helped c =
    let fits : SFits w64 c.args.bound = search rules in
    let same = to_z-of_z w64 c.args.bound fits in
    let other = c.by_range.ensures ∙ ap powers_or_none (c.powers_range.ensures.least ∙ ap (powers_range c.args.coefs.now) same) in
    c.by_offset.ensures
    ∙ ap (λ (leaf : LessLeaf). offset_or leaf c.offset_power.result) other
    ∙ ap (offset_or (powers_or_none (powers_range c.args.coefs.now c.args.bound))) (c.offset_power.ensures.least ∙ ap (offset_power c.args.coefs.now) same)
    ∙ sym (ap (λ (choice : NetLeaves). less_leaf_for choice c.args.coefs.now c.args.bound) c.in-Helped.is)
