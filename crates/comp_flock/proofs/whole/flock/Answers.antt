use Rattle.std.proofs.Common.{◌∙◌, sym, subst, rules, w64, SFits}
use Rattle.std.proofs.lemmas.Int.{to_z-of_z}
use Rattle.std.proofs.lemmas.Result.{IfOk-weaker}
use Rattle.comp_trees.specs.BuiltLeaf.{IsBuilt}
use Rattle.comp_counting.specs.FlockAtoms.{IsOffset, offset_pred_of}
use Rattle.comp_flock.specs.FlockLeaf.{HasSpareRoom, offset_leaf_of}
use Rattle.comp_counting.specs.FullState.{offset_steps}
use Rattle.comp_flock.proofs.Offsets.{flock-offset}
use Rattle.comp_flock.proofs.FlockValid.{no-spare, flock-built}
use Rattle.comp_flock.proofs.whole.flock.Goals as goal

pub offset_flock-requires-clause-offset : goal.offset_flock-requires-clause-offset
offset_flock-requires-clause-offset c =
    let fits : SFits w64 c.bound_of_power.result = search rules in
    let same = to_z-of_z w64 c.bound_of_power.result fits ∙ c.bound_of_power.ensures in
    subst (λ z. IsOffset c.args.coefs.now z c.args.power) (sym same) (flock-offset c.args.coefs.now c.args.power c.requires)

pub offset_flock-requires-clause-room : goal.offset_flock-requires-clause-room
offset_flock-requires-clause-room c =
    let fits : SFits w64 c.bound_of_power.result = search rules in
    let same = to_z-of_z w64 c.bound_of_power.result fits ∙ c.bound_of_power.ensures in
    subst (λ z. HasSpareRoom z c.args.power 0) (sym same) (no-spare c.args.power)

pub returns : goal.returns
returns c =
    let coefs = c.args.coefs.now in
    let k = c.args.power in
    let fits : SFits w64 c.bound_of_power.result = search rules in
    let same = to_z-of_z w64 c.bound_of_power.result fits ∙ c.bound_of_power.ensures in
    IfOk-weaker c.offset_flock.result _ _
    (λ both h. flock-built coefs k both.0 both.1 c.requires (subst (λ z. IsBuilt (offset_leaf_of coefs z k 0) (offset_pred_of coefs z) (offset_steps k) both.0 both.1) same h))
    c.offset_flock.ensures
