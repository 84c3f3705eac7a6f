use Rattle.std.proofs.Common.{◌≡◌, ◌∙◌, Bool, List, map, replicate, length, ap, sym, arith, zero-add, false, get_or}
use Rattle.std.specs.Prelude.{ℤ, pos, neg_ℤ, ℕ}
use Rattle.std.specs.List.{range_with_len}
use Rattle.std.proofs.lemmas.Result.{IfOk-weaker}
use Rattle.std.proofs.lemmas.List.FromFn.{length-map-range_with_len, get_or-map-range_with_len}
use Rattle.cert_base.specs.FactsAndCases.{states_of, indicator, differs}
use Rattle.comp_trees.specs.LeaderTree.{weighed_node}
use Rattle.comp_trees.proofs.SameMix.{listed_mix, map-same}
use Rattle.comp_trees.proofs.TrapNodes.{range-constant}
use Rattle.comp_threshold.specs.ThresholdLeaf.{threshold_state_count, threshold_output}
use Rattle.comp_threshold.specs.ThresholdProof.{wrong_sign}
use Rattle.comp_threshold.proofs.node.wrong_node.Goals as goal
use Rattle.base_laws.proofs.Ranges.{all_range}

-- the signs, by the outputs of the leaf
signs-are : (s t : ℕ) (b : Bool) (outputs : List Bool) (n : ℕ) → n ≡ threshold_state_count s → outputs ≡ map (threshold_output s t) (range_with_len 0 (threshold_state_count s)) → map (wrong_sign s t b) (range_with_len 0 (threshold_state_count s)) ≡ map (λ q. neg_ℤ (indicator (differs b (get_or outputs q false)))) (range_with_len 0 n)
signs-are s t b outputs n e f =
    map-same (wrong_sign s t b) (λ q. neg_ℤ (indicator (differs b (get_or outputs q false)))) (range_with_len 0 (threshold_state_count s))
    (all_range (λ q. wrong_sign s t b q ≡ neg_ℤ (indicator (differs b (get_or outputs q false)))) 0 (threshold_state_count s) (λ q l m. ap (λ o. neg_ℤ (indicator (differs b o))) (sym (ap (λ os. get_or os q false) f ∙ get_or-map-range_with_len (threshold_output s t) 0 (threshold_state_count s) q q false (omega arith) (zero-add q)))))
    ∙ ap (λ k. map (λ q. neg_ℤ (indicator (differs b (get_or outputs q false)))) (range_with_len 0 k)) (sym e)

pub multipliers-requires-clause-out : goal.multipliers-requires-clause-out
multipliers-requires-clause-out c =
    ap length (c.as_slice-2.ensures.value ∙ c.in_ok-signs.ensures) ∙ length-map-range_with_len (wrong_sign c.args.bounded.now.width.number c.args.bounded.now.bound c.args.b) 0 (threshold_state_count c.args.bounded.now.width.number) ∙ sym c.args.bounded.now.states

pub returns : goal.returns
returns c =
    let leaf = c.args.bounded.now.leaf.now in
    let p = c.args.p in
    let sign : ℕ → ℤ = λ q. neg_ℤ (indicator (differs c.args.b (get_or leaf.outputs q false))) in
    let e = c.in_ok-none.ensures in
    let first : c.as_slice.result.now ≡ map (λ (q : ℕ). pos 0) (states_of leaf) = c.as_slice.ensures.value ∙ e.items_if_clones_equal (λ y h. h) ∙ ap (λ n. replicate n (pos 0)) (let k : c.from.result ≡ length leaf.states = omega (arith, c.args.bounded.now.states) in k) ∙ sym (range-constant (pos 0) 0 (length leaf.states)) in
    let second = c.as_slice-2.ensures.value ∙ c.in_ok-signs.ensures ∙ signs-are c.args.bounded.now.width.number c.args.bounded.now.bound c.args.b leaf.outputs (length leaf.states) c.args.bounded.now.states c.args.bounded.now.outputs in
    let mix = listed_mix leaf p (λ (q : ℕ). pos 0) sign (pos 1) (pos 0) (pos 0) c.as_slice.result.now c.as_slice-2.result.now first second in
    IfOk-weaker c.weighed.result _ _ (λ node h. h ∙ ap weighed_node (c.as_slice-3.ensures.value ∙ c.in_ok-multipliers.ensures.mix ∙ mix)) c.weighed.ensures
