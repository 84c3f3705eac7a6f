use Rattle.std.proofs.Common.{◌≡◌, ◌∙◌, ◌-◌, ◌^◌, ◌++◌, true, List, ap, sym, subst, refl, length, arith, rules, w64, SFits}
use Rattle.std.specs.Prelude.{replicate}
use Rattle.std.proofs.lemmas.Int.{to_z-of_z}
use Rattle.std.proofs.lemmas.Result.{IfOk-weaker}
use Rattle.comp_trees.specs.BuiltLeaf.{IsBuilt}
use Rattle.comp_counting.specs.FlockAtoms.{says_enough, enough_for, offset_pred_of}
use Rattle.comp_counting.specs.FullState.{offset_steps}
use Rattle.comp_flock.specs.CountLeaf.{count_leaf, AreWorths}
use Rattle.comp_flock.specs.Covered.{IsCovered}
use Rattle.comp_flock.specs.FlockLeaf.{power_worths, bit_states, all_offset_helpers}
use Rattle.comp_flock.specs.FlockProof.{full_size}
use Rattle.comp_flock.proofs.Powers.{power_small, power-are}
use Rattle.comp_flock.proofs.Covered.{covered-as, built-as}
use Rattle.comp_flock.proofs.FlockValid.{offset-covered}
use Rattle.comp_flock.proofs.whole.offset_flock.Goals as goal

pub invariant_of-worths : goal.invariant_of-worths
invariant_of-worths c =
    let fits : SFits w64 c.args.bound = search rules in
    let k = c.args.power in
    let enough = c.enough_for-enough.ensures ∙ ap enough_for (to_z-of_z w64 c.args.bound fits) in
    let list = c.as_slice.ensures.value ∙ c.in_ok-all.ensures in
    let small = power_small k c.requires.offset.high in
    let target = c.two_to.ensures.value in
    record {
      are = subst (λ ws. AreWorths ws k) (sym list) (power-are k c.requires.offset.high);
      below = (let within = c.requires.offset.within in omega (arith, enough, within, small));
      within = omega (arith, target, small);
      high = c.full_size.ensures.small;
      powers = omega arith;
    }

pub built-requires-clause-covered : goal.built-requires-clause-covered
built-requires-clause-covered c =
    let coefs = c.args.coefs.now in
    let bound = c.args.bound in
    let k = c.args.power in
    let spare = c.args.spare in
    let fits : SFits w64 bound = search rules in
    let same = to_z-of_z w64 bound fits in
    let enough = c.enough_for-enough.ensures ∙ ap enough_for same in
    let list = c.as_slice.ensures.value ∙ c.in_ok-all.ensures in
    let missing = c.missing.ensures ∙ ap (λ n. 2 ^ k - n) enough in
    let helpers = c.in_ok-helpers.ensures ∙ ap (λ n. bit_states n k ++ replicate spare 0) missing in
    subst (λ z. IsCovered coefs z true c.two_to.result c.full_size.result c.as_slice.result.now k k c.in_ok-helpers.helpers.items) (sym same)
    (covered-as coefs bound true (2 ^ k) c.two_to.result (full_size coefs k) c.full_size.result (power_worths k) c.as_slice.result.now k k k (all_offset_helpers bound k spare) c.in_ok-helpers.helpers.items c.two_to.ensures.value c.full_size.ensures.value list refl helpers (offset-covered coefs bound k spare c.requires.offset c.requires.room))

pub returns : goal.returns
returns c =
    let coefs = c.args.coefs.now in
    let bound = c.args.bound in
    let k = c.args.power in
    let spare = c.args.spare in
    let fits : SFits w64 bound = search rules in
    let same = to_z-of_z w64 bound fits in
    let enough = c.enough_for-enough.ensures ∙ ap enough_for same in
    let list = c.as_slice.ensures.value ∙ c.in_ok-all.ensures in
    let missing = c.missing.ensures ∙ ap (λ n. 2 ^ k - n) enough in
    let helpers = c.in_ok-helpers.ensures ∙ ap (λ n. bit_states n k ++ replicate spare 0) missing in
    IfOk-weaker c.built.result _ _
    (λ both h. built-as coefs (says_enough bound) (enough_for bound) true (2 ^ k) c.two_to.result (power_worths k) c.as_slice.result.now k k (all_offset_helpers bound k spare) c.in_ok-helpers.helpers.items (offset_pred_of coefs bound) both.0 both.1 c.two_to.ensures.value list refl helpers
    (subst (λ z. IsBuilt (count_leaf coefs (says_enough z) (enough_for z) true c.two_to.result c.as_slice.result.now k c.in_ok-helpers.helpers.items) (offset_pred_of coefs z) (offset_steps k) both.0 both.1) same h))
    c.built.ensures
