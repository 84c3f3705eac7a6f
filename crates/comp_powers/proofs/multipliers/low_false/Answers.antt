use Rattle.std.proofs.Common.{◌∙◌, ap, length, arith, rules, w64, SFits, to_z, of_z}
use Rattle.std.specs.Prelude.{ℤ, pos, ℕ, ◌^◌}
use Rattle.std.proofs.lemmas.List.FromFn.{length-map-range_with_len}
use Rattle.std.proofs.lemmas.Int.{to_z-of_z}
use Rattle.std.proofs.lemmas.Result.{IfOk-weaker}
use Rattle.comp_trees.specs.LeaderTree.{weighed_node}
use Rattle.comp_powers.specs.PowersProof.{by_role, minus_worth, minus_credit, nothing_own, low_own}
use Rattle.comp_powers.proofs.Listed.{long_of, mix_as, nothing_own_as, low_own_as}
use Rattle.comp_powers.proofs.multipliers.low_false.Goals as goal

pub nothing_own-requires-clause-out : goal.nothing_own-requires-clause-out
nothing_own-requires-clause-out c =
    ap length c.as_slice.ensures.value ∙ long_of c.args.powers.now.leaf.now (by_role c.args.powers.now.coefs.now c.args.powers.now.k (minus_credit c.args.powers.now.coefs.now c.args.powers.now.k)) c.in_ok-lost.lost.items c.in_ok-lost.ensures

pub low_own-requires-clause-out : goal.low_own-requires-clause-out
low_own-requires-clause-out c =
    ap length c.as_slice-2.ensures.value ∙ long_of c.args.powers.now.leaf.now (by_role c.args.powers.now.coefs.now c.args.powers.now.k (minus_credit c.args.powers.now.coefs.now c.args.powers.now.k)) c.in_ok-lost.lost.items c.in_ok-lost.ensures

pub mixed-requires : goal.mixed-requires
mixed-requires c =
    let flows = ap length c.as_slice-5.ensures.value ∙ long_of c.args.powers.now.leaf.now (by_role c.args.powers.now.coefs.now c.args.powers.now.k (minus_worth c.args.powers.now.coefs.now c.args.powers.now.k)) c.in_ok-owed.owed.items c.in_ok-owed.ensures in
    let own = ap length c.as_slice-6.ensures.value in
    let size : ℕ → ℤ = λ i. pos (2 ^ i) in
    let twins = ap length (c.as_slice-3.ensures.value ∙ c.in_ok-sizes.ensures) ∙ length-map-range_with_len size 0 c.args.powers.now.k in
    let last = ap length c.as_slice-4.ensures.value in
    omega (arith, flows, own, twins, last, c.in_ok-last.ensures.short, c.in_ok-own.ensures.short, c.args.powers.now.states.counted, c.args.powers.now.states.few, c.args.powers.now.states.range.power)

pub returns : goal.returns
returns c =
    let leaf = c.args.powers.now.leaf.now in
    let f = by_role c.args.powers.now.coefs.now c.args.powers.now.k (minus_worth c.args.powers.now.coefs.now c.args.powers.now.k) in
    let out = by_role c.args.powers.now.coefs.now c.args.powers.now.k (minus_credit c.args.powers.now.coefs.now c.args.powers.now.k) in
    let range = pos (2 ^ c.args.powers.now.k) in
    let size : ℕ → ℤ = λ i. pos (2 ^ i) in
    let fits : SFits w64 c.size-range.result = search rules in
    let same = to_z-of_z w64 c.size-range.result fits ∙ c.size-range.ensures in
    let last = nothing_own_as leaf out c.as_slice.result.now c.in_ok-last.last.items (c.as_slice.ensures.value ∙ c.in_ok-lost.ensures) c.in_ok-last.ensures.list in
    let own = low_own_as leaf c.args.powers.now.k (to_z w64 (of_z w64 c.size-range.result)) out size c.as_slice-2.result.now c.as_slice-3.result.now c.as_slice-4.result.now (nothing_own leaf out) c.in_ok-own.own.items (c.as_slice-2.ensures.value ∙ c.in_ok-lost.ensures) (c.as_slice-3.ensures.value ∙ c.in_ok-sizes.ensures) (c.as_slice-4.ensures.value ∙ last) c.in_ok-own.ensures.list ∙ ap (λ h. low_own leaf c.args.powers.now.k h out size (nothing_own leaf out)) same in
    IfOk-weaker c.mixed.result _ _
    (λ node h. h ∙ ap weighed_node (mix_as leaf f (pos 0) (pos 1) c.as_slice-5.result.now c.as_slice-6.result.now (low_own leaf c.args.powers.now.k range out size (nothing_own leaf out)) (c.as_slice-5.ensures.value ∙ c.in_ok-owed.ensures) (c.as_slice-6.ensures.value ∙ own)))
    c.mixed.ensures
