use Rattle.std.proofs.Common.{◌∙◌, sym, ap, length, arith}
use Rattle.std.specs.Prelude.{pos, true}
use Rattle.std.proofs.lemmas.Result.{IfOk-weaker}
use Rattle.comp_trees.specs.LeaderTree.{weighed_node}
use Rattle.comp_powers.specs.PowersProof.{none, minus_wrong, nothing_own, low_own}
use Rattle.comp_trees.proofs.TrapNodes.{range-constant}
use Rattle.comp_powers.proofs.Listed.{long_of, mix_as, nothing_own_as, low_own_as}
use Rattle.comp_powers.proofs.multipliers.low_true.Goals as goal

pub nothing_own-requires-clause-out : goal.nothing_own-requires-clause-out
nothing_own-requires-clause-out c =
    ap length c.as_slice.ensures.value ∙ long_of c.args.powers.now.leaf.now (minus_wrong c.args.powers.now.leaf.now true) c.in_ok-wrong.wrong.items c.in_ok-wrong.ensures

pub low_own-requires-clause-out : goal.low_own-requires-clause-out
low_own-requires-clause-out c =
    ap length c.as_slice-2.ensures.value ∙ long_of c.args.powers.now.leaf.now (minus_wrong c.args.powers.now.leaf.now true) c.in_ok-wrong.wrong.items c.in_ok-wrong.ensures

pub mixed-requires : goal.mixed-requires
mixed-requires c =
    let flows = ap length c.as_slice-5.ensures.value ∙ long_of c.args.powers.now.leaf.now none c.in_ok-none.none.items c.in_ok-none.ensures in
    let own = ap length c.as_slice-6.ensures.value in
    let twins = ap length c.as_slice-3.ensures.value in
    let last = ap length c.as_slice-4.ensures.value in
    omega (arith, flows, own, twins, last, c.in_ok-zeros.ensures.len, c.in_ok-last.ensures.short, c.in_ok-own.ensures.short, c.args.powers.now.states.counted, c.args.powers.now.states.few, c.args.powers.now.states.range.power)

pub returns : goal.returns
returns c =
    let leaf = c.args.powers.now.leaf.now in
    let out = minus_wrong leaf true in
    let last = nothing_own_as leaf out c.as_slice.result.now c.in_ok-last.last.items (c.as_slice.ensures.value ∙ c.in_ok-wrong.ensures) c.in_ok-last.ensures.list in
    let own = low_own_as leaf c.args.powers.now.k (pos 0) out none c.as_slice-2.result.now c.as_slice-3.result.now c.as_slice-4.result.now (nothing_own leaf out) c.in_ok-own.own.items (c.as_slice-2.ensures.value ∙ c.in_ok-wrong.ensures) (c.as_slice-3.ensures.value ∙ c.in_ok-zeros.ensures.items_if_clones_equal (λ y h. h) ∙ sym (range-constant (pos 0) 0 c.args.powers.now.k)) (c.as_slice-4.ensures.value ∙ last) c.in_ok-own.ensures.list in
    IfOk-weaker c.mixed.result _ _
    (λ node h. h ∙ ap weighed_node (mix_as leaf none (pos 1) (pos 0) c.as_slice-5.result.now c.as_slice-6.result.now (low_own leaf c.args.powers.now.k (pos 0) out none (nothing_own leaf out)) (c.as_slice-5.ensures.value ∙ c.in_ok-none.ensures) (c.as_slice-6.ensures.value ∙ own)))
    c.mixed.ensures
