use Rattle.std.proofs.Common.{◌∙◌, ap, length, arith}
use Rattle.std.specs.Prelude.{pos}
use Rattle.std.proofs.lemmas.Result.{IfOk-weaker}
use Rattle.comp_trees.specs.LeaderTree.{weighed_node}
use Rattle.comp_powers_leaf.specs.PowersLeaf.{worth}
use Rattle.comp_powers.specs.PowersProof.{by_role, high_own}
use Rattle.comp_powers.proofs.Listed.{long_of, mix_as, high_own_as}
use Rattle.comp_powers.proofs.multipliers.high_true.Goals as goal

pub high_own-requires-clause-out : goal.high_own-requires-clause-out
high_own-requires-clause-out c =
    ap length c.as_slice.ensures.value ∙ long_of c.args.powers.now.leaf.now (by_role c.args.powers.now.coefs.now c.args.powers.now.k (worth c.args.powers.now.coefs.now c.args.powers.now.k)) c.in_ok-worths.worths.items c.in_ok-worths.ensures

pub mixed-requires : goal.mixed-requires
mixed-requires c =
    let flows = ap length c.as_slice-2.ensures.value ∙ long_of c.args.powers.now.leaf.now (by_role c.args.powers.now.coefs.now c.args.powers.now.k (worth c.args.powers.now.coefs.now c.args.powers.now.k)) c.in_ok-worths.worths.items c.in_ok-worths.ensures in
    let own = ap length c.as_slice-3.ensures.value in
    omega (arith, flows, own, c.in_ok-own.ensures.short, c.args.powers.now.states.counted, c.args.powers.now.states.few)

pub returns : goal.returns
returns c =
    let leaf = c.args.powers.now.leaf.now in
    let f = by_role c.args.powers.now.coefs.now c.args.powers.now.k (worth c.args.powers.now.coefs.now c.args.powers.now.k) in
    let flows = c.in_ok-worths.ensures in
    let own = high_own_as leaf f c.as_slice.result.now c.in_ok-own.own.items (c.as_slice.ensures.value ∙ flows) c.in_ok-own.ensures.list in
    IfOk-weaker c.mixed.result _ _
    (λ node h. h ∙ ap weighed_node (mix_as leaf f (pos 0) (pos 1) c.as_slice-2.result.now c.as_slice-3.result.now (high_own leaf f) (c.as_slice-2.ensures.value ∙ flows) (c.as_slice-3.ensures.value ∙ own)))
    c.mixed.ensures
