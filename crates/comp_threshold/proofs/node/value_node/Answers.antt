use Rattle.std.proofs.Common.{◌∙◌, map, length, ap, sym, rules, w64, SFits}
use Rattle.std.proofs.lemmas.Int.{to_z-of_z}
use Rattle.std.specs.Prelude.{pos}
use Rattle.std.specs.List.{range_with_len}
use Rattle.std.proofs.lemmas.Result.{IfOk-weaker}
use Rattle.std.proofs.lemmas.List.FromFn.{length-map-range_with_len}
use Rattle.comp_trees.specs.LeaderTree.{company_of, mix_by, mix_of_leader, weighed_node}
use Rattle.comp_trees.proofs.SameMix.{listed_mix}
use Rattle.comp_threshold.specs.ThresholdLeaf.{threshold_state_count}
use Rattle.comp_threshold.specs.ThresholdProof.{signed_value}
use Rattle.comp_threshold.proofs.node.value_node.Goals as goal

pub multipliers-requires-clause-flows : goal.multipliers-requires-clause-flows
multipliers-requires-clause-flows c =
    ap length (c.as_slice.ensures.value ∙ c.in_ok-values.ensures) ∙ length-map-range_with_len (signed_value c.args.b c.args.bounded.now.width.number) 0 (threshold_state_count c.args.bounded.now.width.number) ∙ sym c.args.bounded.now.states

pub multipliers-requires-clause-out : goal.multipliers-requires-clause-out
multipliers-requires-clause-out c =
    ap length (c.as_slice-2.ensures.value ∙ c.in_ok-values.ensures) ∙ length-map-range_with_len (signed_value c.args.b c.args.bounded.now.width.number) 0 (threshold_state_count c.args.bounded.now.width.number) ∙ sym c.args.bounded.now.states

pub returns : goal.returns
returns c =
    let leaf = c.args.bounded.now.leaf.now in
    let p = c.args.p in
    let value = signed_value c.args.b c.args.bounded.now.width.number in
    let range = ap (λ n. map value (range_with_len 0 n)) (sym c.args.bounded.now.states) in
    let first = c.as_slice.ensures.value ∙ c.in_ok-values.ensures ∙ range in
    let second = c.as_slice-2.ensures.value ∙ c.in_ok-values.ensures ∙ range in
    let mix = listed_mix leaf p value value (pos 0) (pos 1) (value p) c.as_slice.result.now c.as_slice-2.result.now first second in
    let fits : SFits w64 c.signed-alone.result = search rules in
    let alone = ap (λ a. mix_of_leader leaf (company_of leaf p) (mix_by c.as_slice.result.now (pos 0) (pos 1) c.as_slice-2.result.now a) p) (to_z-of_z w64 c.signed-alone.result fits ∙ c.signed-alone.ensures) in
    IfOk-weaker c.weighed.result _ _ (λ node h. h ∙ ap weighed_node (c.as_slice-3.ensures.value ∙ c.in_ok-multipliers.ensures.mix ∙ alone ∙ mix)) c.weighed.ensures
