use Rattle.std.proofs.Common.{◌∙◌, ◌-◌, ◌+◌, ◌^◌, ◌≤◌, ap, sym, subst, length, refl, rules, w64, SFits}
use Rattle.std.proofs.lemmas.Int.{to_z-of_z}
use Rattle.std.proofs.lemmas.Result.{IfOk-weaker}
use Rattle.std.proofs.lemmas.List.{length-map}
use Rattle.std.proofs.lemmas.List.FromFn.{length-map-range_with_len}
use Rattle.pres_ast.specs.PredTree.{LessThan}
use Rattle.comp_trees.specs.BuiltLeaf.{IsBuilt}
use Rattle.comp_threshold.specs.declared.limits.TheConstants.{WIDTH_LIMIT}
use Rattle.comp_threshold.specs.ThresholdLeaf.{threshold_width, place_of_value}
use Rattle.comp_threshold.specs.Built.{IsThreshold}
use Rattle.comp_counting.specs.FlockAtoms.{enough_for, IsOffset, flock_pred_of, offset_pred_of}
use Rattle.comp_counting.specs.FullState.{flock_start, offset_steps}
use Rattle.comp_flock.specs.FlockLeaf.{offset_leaf_of, offset_helper_count}
use Rattle.comp_flock.specs.PrefixLeaf.{IsPrefix, prefix_leaf_of, last_place}
use Rattle.comp_powers_leaf.specs.PowersLeaf.{place, start_of, coefficient_of, powers_leaf_of, IsPowers}
use Rattle.comp_powers.specs.PowersProof.{powers_pred_of, powers_steps}
use Rattle.comp_net.specs.Atoms.{less_leaf_for}
use Rattle.comp_net.specs.declared.choice.LessLeaf.TheVariants.{Threshold, Flock, Offset, Prefix, Powers}
use Rattle.comp_net.proofs.Adding.{less_atom}
use Rattle.comp_net.proofs.Chosen.{chosen_as, threshold_narrow, offset_low, offset_is_one, prefix_is_one, powers_found}
use Rattle.comp_net.proofs.building.less.Goals as goal

pub narrow-requires-clause-narrow : goal.narrow-requires-clause-narrow
narrow-requires-clause-narrow c =
    let fits : SFits w64 c.args.bound = search rules in
    let same = to_z-of_z w64 c.args.bound fits in
    let some = sym (c.less_leaf.ensures ∙ ap (less_leaf_for c.args.choice c.args.coefs.now) same) ∙ c.in-Threshold.is in
    subst (λ z. threshold_width c.args.coefs.now z ≤ WIDTH_LIMIT) (sym same) (threshold_narrow c.args.choice c.args.coefs.now c.args.bound some c.requires.atom.3)

pub flock-requires : goal.flock-requires
flock-requires c =
    let fits : SFits w64 c.args.bound = search rules in
    let some = sym (c.less_leaf.ensures ∙ ap (less_leaf_for c.args.choice c.args.coefs.now) (to_z-of_z w64 c.args.bound fits)) ∙ c.in-Flock.is in
    let found = (chosen_as c.args.choice c.args.coefs.now c.args.bound (Flock c.in-Flock.power) some).1 in
    let sum = c.requires.atom.0 in
    record { some = sum.some; few = sum.few; are = found.are; low = found.low; high = found.high }

pub offset_helper_count-requires : goal.offset_helper_count-requires
offset_helper_count-requires c =
    let fits : SFits w64 c.args.bound = search rules in
    let some = sym (c.less_leaf.ensures ∙ ap (less_leaf_for c.args.choice c.args.coefs.now) (to_z-of_z w64 c.args.bound fits)) ∙ c.in-Offset.is in
    offset_low c.args.choice c.args.coefs.now c.args.bound c.in-Offset.power some

pub offset_flock-requires-clause-offset : goal.offset_flock-requires-clause-offset
offset_flock-requires-clause-offset c =
    let fits : SFits w64 c.args.bound = search rules in
    let same = to_z-of_z w64 c.args.bound fits in
    let some = sym (c.less_leaf.ensures ∙ ap (less_leaf_for c.args.choice c.args.coefs.now) same) ∙ c.in-Offset.is in
    subst (λ z. IsOffset c.args.coefs.now z c.in-Offset.power) (sym same) (offset_is_one c.args.choice c.args.coefs.now c.args.bound c.in-Offset.power some c.requires.atom.0)

pub prefix_flock-requires : goal.prefix_flock-requires
prefix_flock-requires c =
    let fits : SFits w64 c.args.bound = search rules in
    let same = to_z-of_z w64 c.args.bound fits in
    let some = sym (c.less_leaf.ensures ∙ ap (less_leaf_for c.args.choice c.args.coefs.now) same) ∙ c.in-Prefix.is in
    subst (λ z. IsPrefix c.args.coefs.now z c.in-Prefix.top) (sym same) (prefix_is_one c.args.choice c.args.coefs.now c.args.bound c.in-Prefix.top some c.requires.atom.0)

pub powers-requires-clause-range : goal.powers-requires-clause-range
powers-requires-clause-range c =
    let fits : SFits w64 c.args.bound = search rules in
    let same = to_z-of_z w64 c.args.bound fits in
    let some = sym (c.less_leaf.ensures ∙ ap (less_leaf_for c.args.choice c.args.coefs.now) same) ∙ c.in-Powers.is in
    subst (λ z. IsPowers c.args.coefs.now z c.in-Powers.range) (sym same) (powers_found c.args.choice c.args.coefs.now c.args.bound c.in-Powers.range some c.requires.atom.0 c.requires.atom.3)

pub returns-in-Threshold : goal.returns-in-Threshold
returns-in-Threshold c =
    let fits : SFits w64 c.args.bound = search rules in
    let same = to_z-of_z w64 c.args.bound fits in
    let coefs = c.args.coefs.now in
    let bound = c.args.bound in
    let some = sym (c.less_leaf.ensures ∙ ap (less_leaf_for c.args.choice coefs) same) ∙ c.in-Threshold.is in
    IfOk-weaker c.narrow.result _ _
    (λ both h. less_atom c.args.choice c.args.helpers coefs bound Threshold (record { variables = length coefs; tree = LessThan coefs bound }) both.0 both.1 some (subst (λ z. IsThreshold coefs z both.0 both.1) same h) refl (sym (length-map coefs (place_of_value (threshold_width coefs bound)))))
    c.narrow.ensures

pub returns-in-Flock : goal.returns-in-Flock
returns-in-Flock c =
    let fits : SFits w64 c.args.bound = search rules in
    let coefs = c.args.coefs.now in
    let k = c.in-Flock.power in
    let some = sym (c.less_leaf.ensures ∙ ap (less_leaf_for c.args.choice coefs) (to_z-of_z w64 c.args.bound fits)) ∙ c.in-Flock.is in
    let found = (chosen_as c.args.choice coefs c.args.bound (Flock k) some).1 in
    IfOk-weaker c.flock.result _ _
    (λ both h. less_atom c.args.choice c.args.helpers coefs c.args.bound (Flock k) (flock_pred_of coefs k) both.0 both.1 some h (ap (LessThan coefs) (sym found.bound_is)) (sym (length-map coefs (flock_start (2 ^ k) k))))
    c.flock.ensures

pub returns-in-Offset : goal.returns-in-Offset
returns-in-Offset c =
    let fits : SFits w64 c.args.bound = search rules in
    let same = to_z-of_z w64 c.args.bound fits in
    let coefs = c.args.coefs.now in
    let bound = c.args.bound in
    let k = c.in-Offset.power in
    let some = sym (c.less_leaf.ensures ∙ ap (less_leaf_for c.args.choice coefs) same) ∙ c.in-Offset.is in
    let own = c.offset_helper_count.ensures.count ∙ ap (λ z. offset_helper_count z k) same in
    IfOk-weaker c.offset_flock.result _ _
    (λ both h.
    let e = subst (λ z. IsBuilt (offset_leaf_of coefs z k (c.args.helpers - c.offset_helper_count.result)) (offset_pred_of coefs z) (offset_steps k) both.0 both.1) same h in
    let f = subst (λ n. IsBuilt (offset_leaf_of coefs bound k (c.args.helpers - n)) (offset_pred_of coefs bound) (offset_steps k) both.0 both.1) own e in
    less_atom c.args.choice c.args.helpers coefs bound (Offset k) (offset_pred_of coefs bound) both.0 both.1 some f refl (sym (length-map coefs (flock_start (enough_for bound) k))))
    c.offset_flock.ensures

pub returns-in-Prefix : goal.returns-in-Prefix
returns-in-Prefix c =
    let fits : SFits w64 c.args.bound = search rules in
    let same = to_z-of_z w64 c.args.bound fits in
    let coefs = c.args.coefs.now in
    let bound = c.args.bound in
    let top = c.in-Prefix.top in
    let some = sym (c.less_leaf.ensures ∙ ap (less_leaf_for c.args.choice coefs) same) ∙ c.in-Prefix.is in
    IfOk-weaker c.prefix_flock.result _ _
    (λ both h.
    let e = subst (λ z. IsBuilt (prefix_leaf_of coefs z top) (offset_pred_of coefs z) (offset_steps (last_place z top)) both.0 both.1) same h in
    less_atom c.args.choice c.args.helpers coefs bound (Prefix top) (offset_pred_of coefs bound) both.0 both.1 some e refl (sym (length-map coefs (flock_start (enough_for bound) (last_place bound top)))))
    c.prefix_flock.ensures

pub returns-in-Powers : goal.returns-in-Powers
returns-in-Powers c =
    let fits : SFits w64 c.args.bound = search rules in
    let same = to_z-of_z w64 c.args.bound fits in
    let coefs = c.args.coefs.now in
    let bound = c.args.bound in
    let k = c.in-Powers.range in
    let some = sym (c.less_leaf.ensures ∙ ap (less_leaf_for c.args.choice coefs) same) ∙ c.in-Powers.is in
    IfOk-weaker c.powers.result _ _
    (λ both h.
    let e = subst (λ z. IsBuilt (powers_leaf_of coefs z k (c.args.helpers - (k + 2))) (powers_pred_of coefs z) (powers_steps coefs k) both.0 both.1) same h in
    less_atom c.args.choice c.args.helpers coefs bound (Powers k) (powers_pred_of coefs bound) both.0 both.1 some e refl (sym (length-map-range_with_len (λ j. place coefs k (start_of k j (coefficient_of coefs j))) 0 (length coefs))))
    c.powers.ensures
