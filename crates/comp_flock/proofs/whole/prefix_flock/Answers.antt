use Rattle.std.proofs.Common.{◌≡◌, ◌∙◌, ◌-◌, ◌^◌, false, [], List, ap, sym, subst, length, arith, rules, w64, SFits}
use Rattle.std.proofs.lemmas.Int.{to_z-of_z}
use Rattle.std.proofs.lemmas.Result.{IfOk-weaker}
use Rattle.comp_trees.specs.BuiltLeaf.{IsBuilt}
use Rattle.comp_counting.specs.declared.limits.TheConstants.{POWER_LIMIT}
use Rattle.comp_counting.specs.FlockAtoms.{says_enough, enough_for, offset_pred_of}
use Rattle.comp_counting.specs.FullState.{offset_steps}
use Rattle.comp_flock.specs.CountLeaf.{count_leaf, AreWorths}
use Rattle.comp_flock.specs.Covered.{IsCovered}
use Rattle.comp_flock.specs.PrefixLeaf.{bound_worths, last_place, worths}
use Rattle.comp_flock.proofs.Formed.{top-few}
use Rattle.comp_flock.proofs.Building.{prefix-worths, top-before}
use Rattle.comp_flock.proofs.Covered.{prefix-covered, covered-as, built-as}
use Rattle.comp_flock.proofs.whole.prefix_flock.Goals as goal

pub all_worths-requires : goal.all_worths-requires
all_worths-requires c = top-few c.args.coefs.now c.args.bound c.args.top c.requires

pub overflow_cast-worths : goal.overflow_cast-worths
overflow_cast-worths c = let few = top-few c.args.coefs.now c.args.bound c.args.top c.requires in omega (arith, few)

pub overflow_cast-worths-2 : goal.overflow_cast-worths-2
overflow_cast-worths-2 c =
    let fits : SFits w64 c.args.bound = search rules in
    let enough = c.enough_for-enough.ensures ∙ ap enough_for (to_z-of_z w64 c.args.bound fits) in
    let list = c.as_slice-list.ensures.value ∙ c.in_ok-all.ensures ∙ ap (λ n. worths n c.args.top) enough in
    let are = prefix-worths c.args.coefs.now c.args.bound c.args.top c.requires in
    let few = are.few in
    let long = ap length list in
    omega (arith, few, long)

pub invariant_of-worths : goal.invariant_of-worths
invariant_of-worths c =
    let fits : SFits w64 c.args.bound = search rules in
    let enough = c.enough_for-enough.ensures ∙ ap enough_for (to_z-of_z w64 c.args.bound fits) in
    let list : c.as_slice-list.result.now ≡ bound_worths c.args.bound c.args.top = c.as_slice-list.ensures.value ∙ c.in_ok-all.ensures ∙ ap (λ n. worths n c.args.top) enough in
    record {
      are = subst (λ ws. AreWorths ws (length ws - 2)) (sym list) (prefix-worths c.args.coefs.now c.args.bound c.args.top c.requires);
      below = omega (arith, enough, c.requires.within);
      within = omega (arith, enough, c.requires.within);
      high = (let most = c.two_to.ensures.value in omega (arith, most));
      powers = top-before c.args.coefs.now c.args.bound c.args.top _ c.requires (ap (λ ws. length ws - 2) list);
    }

pub built-requires-clause-covered : goal.built-requires-clause-covered
built-requires-clause-covered c =
    let coefs = c.args.coefs.now in
    let bound = c.args.bound in
    let top = c.args.top in
    let fits : SFits w64 bound = search rules in
    let same = to_z-of_z w64 bound fits in
    let enough = c.enough_for-enough.ensures ∙ ap enough_for same in
    let list : c.as_slice-list.result.now ≡ bound_worths bound top = c.as_slice-list.ensures.value ∙ c.in_ok-all.ensures ∙ ap (λ n. worths n top) enough in
    subst (λ z. IsCovered coefs z false c.enough_for-enough.result c.two_to.result c.as_slice-list.result.now top (length c.as_slice-list.result.now - 2) c.new.result.items) (sym same)
    (covered-as coefs bound false (enough_for bound) c.enough_for-enough.result (2 ^ POWER_LIMIT) c.two_to.result (bound_worths bound top) c.as_slice-list.result.now top (last_place bound top) _ [] c.new.result.items enough c.two_to.ensures.value list (ap (λ ws. length ws - 2) list) c.new.ensures.items (prefix-covered coefs bound top c.requires))

pub returns : goal.returns
returns c =
    let coefs = c.args.coefs.now in
    let bound = c.args.bound in
    let top = c.args.top in
    let fits : SFits w64 bound = search rules in
    let same = to_z-of_z w64 bound fits in
    let enough = c.enough_for-enough.ensures ∙ ap enough_for same in
    let list : c.as_slice-list.result.now ≡ bound_worths bound top = c.as_slice-list.ensures.value ∙ c.in_ok-all.ensures ∙ ap (λ n. worths n top) enough in
    IfOk-weaker c.built.result _ _
    (λ both h. built-as coefs (says_enough bound) (enough_for bound) false (enough_for bound) c.enough_for-enough.result (bound_worths bound top) c.as_slice-list.result.now (last_place bound top) (length c.as_slice-list.result.now - 2) [] c.new.result.items (offset_pred_of coefs bound) both.0 both.1 enough list (ap (λ ws. length ws - 2) list) c.new.ensures.items
    (subst (λ z. IsBuilt (count_leaf coefs (says_enough z) (enough_for z) false c.enough_for-enough.result c.as_slice-list.result.now (length c.as_slice-list.result.now - 2) c.new.result.items) (offset_pred_of coefs z) (offset_steps (length c.as_slice-list.result.now - 2)) both.0 both.1) same h))
    c.built.ensures
