use Rattle.std.proofs.Common.{◌≡◌, ◌∙◌, map, replicate, length, ap, sym, false, arith}
use Rattle.std.specs.Prelude.{ℤ, pos, neg_ℤ, ℕ, slice_index_or}
use Rattle.std.proofs.lemmas.Result.{IfOk-weaker}
use Rattle.std.proofs.lemmas.List.FromFn.{length-map-range_with_len}
use Rattle.cert_base.specs.FactsAndCases.{states_of, indicator, differs}
use Rattle.comp_trees.specs.LeaderTree.{weighed_node}
use Rattle.comp_trees.proofs.SameMix.{listed_mix}
use Rattle.comp_trees.proofs.TrapNodes.{range-constant}
use Rattle.comp_remainder.proofs.node.wrong_node.Goals as goal

pub multipliers-requires-clause-out : goal.multipliers-requires-clause-out
multipliers-requires-clause-out c =
    ap length (c.as_slice-2.ensures.value ∙ c.in_ok-signs.ensures) ∙ length-map-range_with_len (λ q. neg_ℤ (indicator (differs c.args.answer (slice_index_or c.args.leaf.now.outputs q false)))) 0 (length c.args.leaf.now.states)

pub returns : goal.returns
returns c =
    let leaf = c.args.leaf.now in
    let p = c.args.p in
    let sign : ℕ → ℤ = λ q. neg_ℤ (indicator (differs c.args.answer (slice_index_or leaf.outputs q false))) in
    let e = c.in_ok-none.ensures in
    let first : c.as_slice.result.now ≡ map (λ (q : ℕ). pos 0) (states_of leaf) = c.as_slice.ensures.value ∙ e.items_if_clones_equal (λ y h. h) ∙ ap (λ n. replicate n (pos 0)) (let k : c.from.result ≡ length leaf.states = omega (arith, c.state_count.ensures.count) in k) ∙ sym (range-constant (pos 0) 0 (length leaf.states)) in
    let second = c.as_slice-2.ensures.value ∙ c.in_ok-signs.ensures in
    let mix = listed_mix leaf p (λ (q : ℕ). pos 0) sign (pos 1) (pos 0) (pos 0) c.as_slice.result.now c.as_slice-2.result.now first second in
    IfOk-weaker c.weighed.result _ _ (λ node h. h ∙ ap weighed_node (c.as_slice-3.ensures.value ∙ c.in_ok-mixed.ensures.mix ∙ mix)) c.weighed.ensures
