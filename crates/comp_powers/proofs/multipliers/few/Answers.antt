use Rattle.std.proofs.Common.{◌∙◌, sym, ◌∷◌, [], ap, length, arith, refl}
use Rattle.std.specs.Prelude.{ℤ, pos, negsuc, ℕ}
use Rattle.std.proofs.lemmas.Result.{IfOk-weaker}
use Rattle.comp_trees.specs.LeaderTree.{weighed_node}
use Rattle.comp_powers.specs.PowersProof.{by_role, minus_ready, low_own}
use Rattle.comp_trees.proofs.TrapNodes.{range-constant}
use Rattle.comp_powers.proofs.Listed.{long_of, mix_as, low_own_as}
use Rattle.comp_powers.proofs.multipliers.few.Goals as goal

pub low_own-requires-clause-out : goal.low_own-requires-clause-out
low_own-requires-clause-out c =
    ap length c.as_slice.ensures.value ∙ long_of c.args.powers.now.leaf.now (λ q. negsuc 0) c.in_ok-out.out.items c.in_ok-out.ensures

pub mixed-requires : goal.mixed-requires
mixed-requires c =
    let flows = ap length c.as_slice-3.ensures.value ∙ long_of c.args.powers.now.leaf.now (by_role c.args.powers.now.coefs.now c.args.powers.now.k minus_ready) c.in_ok-ready.ready.items c.in_ok-ready.ensures in
    let own = ap length c.as_slice-4.ensures.value in
    let twins = ap length c.as_slice-2.ensures.value in
    omega (arith, flows, own, twins, c.in_ok-ones.ensures.len, c.in_ok-own.ensures.short, c.args.powers.now.states.counted, c.args.powers.now.states.few, c.args.powers.now.states.range.power)

pub returns : goal.returns
returns c =
    let leaf = c.args.powers.now.leaf.now in
    let f = by_role c.args.powers.now.coefs.now c.args.powers.now.k minus_ready in
    let out : ℕ → ℤ = λ q. negsuc 0 in
    let by : ℕ → ℤ = λ i. pos 1 in
    let own = low_own_as leaf c.args.powers.now.k (pos 0) out by c.as_slice.result.now c.as_slice-2.result.now (negsuc 0 ∷ []) (negsuc 0 ∷ []) c.in_ok-own.own.items (c.as_slice.ensures.value ∙ c.in_ok-out.ensures) (c.as_slice-2.ensures.value ∙ c.in_ok-ones.ensures.items_if_clones_equal (λ y h. h) ∙ sym (range-constant (pos 1) 0 c.args.powers.now.k)) refl c.in_ok-own.ensures.list in
    IfOk-weaker c.mixed.result _ _
    (λ node h. h ∙ ap weighed_node (mix_as leaf f (pos 0) (pos 0) c.as_slice-3.result.now c.as_slice-4.result.now (low_own leaf c.args.powers.now.k (pos 0) out by (negsuc 0 ∷ [])) (c.as_slice-3.ensures.value ∙ c.in_ok-ready.ensures) (c.as_slice-4.ensures.value ∙ own)))
    c.mixed.ensures
