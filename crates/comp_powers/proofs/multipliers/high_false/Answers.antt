use Rattle.std.proofs.Common.{◌∙◌, ap, length, arith}
use Rattle.std.specs.Prelude.{pos, false}
use Rattle.std.proofs.lemmas.Result.{IfOk-weaker}
use Rattle.comp_trees.specs.LeaderTree.{weighed_node}
use Rattle.comp_powers.specs.PowersProof.{none, minus_wrong, high_own}
use Rattle.comp_powers.proofs.Listed.{long_of, mix_as, high_own_as}
use Rattle.comp_powers.proofs.multipliers.high_false.Goals as goal

pub high_own-requires-clause-out : goal.high_own-requires-clause-out
high_own-requires-clause-out c =
    ap length c.as_slice.ensures.value ∙ long_of c.args.powers.now.leaf.now (minus_wrong c.args.powers.now.leaf.now false) c.in_ok-wrong.wrong.items c.in_ok-wrong.ensures

pub mixed-requires : goal.mixed-requires
mixed-requires c =
    let flows = ap length c.as_slice-2.ensures.value ∙ long_of c.args.powers.now.leaf.now none c.in_ok-none.none.items c.in_ok-none.ensures in
    let own = ap length c.as_slice-3.ensures.value in
    omega (arith, flows, own, c.in_ok-own.ensures.short, c.args.powers.now.states.counted, c.args.powers.now.states.few)

pub returns : goal.returns
returns c =
    let leaf = c.args.powers.now.leaf.now in
    let out = minus_wrong leaf false in
    let own = high_own_as leaf out c.as_slice.result.now c.in_ok-own.own.items (c.as_slice.ensures.value ∙ c.in_ok-wrong.ensures) c.in_ok-own.ensures.list in
    IfOk-weaker c.mixed.result _ _
    (λ node h. h ∙ ap weighed_node (mix_as leaf none (pos 1) (pos 0) c.as_slice-2.result.now c.as_slice-3.result.now (high_own leaf out) (c.as_slice-2.ensures.value ∙ c.in_ok-none.ensures) (c.as_slice-3.ensures.value ∙ own)))
    c.mixed.ensures
