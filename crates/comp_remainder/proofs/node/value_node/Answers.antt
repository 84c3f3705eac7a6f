use Rattle.std.proofs.Common.{◌∙◌, map, length, ap, sym, rules, w64, SFits, to_z, of_z}
use Rattle.std.specs.Prelude.{pos}
use Rattle.std.specs.List.{range_with_len}
use Rattle.std.proofs.lemmas.Int.{to_z-of_z}
use Rattle.std.proofs.lemmas.List.FromFn.{length-map-range_with_len}
use Rattle.cert_base.specs.declared.node.Node.TheVariants.{Residue}
use Rattle.cert_base.specs.Rows.{terms_from}
use Rattle.comp_trees.specs.LeaderTree.{company_of, mix_by, mix_of_leader}
use Rattle.comp_trees.proofs.SameMix.{listed_mix}
use Rattle.comp_remainder.specs.RemainderLeaf.{remainder_state_count}
use Rattle.comp_remainder.specs.RemainderProof.{remainder_value, opened_by}
use Rattle.comp_remainder.proofs.node.value_node.Goals as goal

pub multipliers-requires-clause-flows : goal.multipliers-requires-clause-flows
multipliers-requires-clause-flows c =
    ap length (c.as_slice.ensures.value ∙ c.in_ok-values.ensures) ∙ length-map-range_with_len (remainder_value c.args.modulus.number) 0 (remainder_state_count c.args.modulus.number) ∙ sym c.requires.states

pub multipliers-requires-clause-out : goal.multipliers-requires-clause-out
multipliers-requires-clause-out c =
    ap length (c.as_slice-2.ensures.value ∙ c.in_ok-values.ensures) ∙ length-map-range_with_len (remainder_value c.args.modulus.number) 0 (remainder_state_count c.args.modulus.number) ∙ sym c.requires.states

pub returns : goal.returns
returns c =
    let leaf = c.args.leaf.now in
    let p = c.args.p in
    let value = remainder_value c.args.modulus.number in
    let range = ap (λ n. map value (range_with_len 0 n)) (sym c.requires.states) in
    let first = c.as_slice.ensures.value ∙ c.in_ok-values.ensures ∙ range in
    let second = c.as_slice-2.ensures.value ∙ c.in_ok-values.ensures ∙ range in
    let mix = listed_mix leaf p value value (pos 0) (opened_by c.args.answer) (value p) c.as_slice.result.now c.as_slice-2.result.now first second in
    let fits : SFits w64 c.value-alone.result = search rules in
    let fits2 : SFits w64 c.opened-added.result = search rules in
    let added = ap (λ o. mix_of_leader leaf (company_of leaf p) (mix_by c.as_slice.result.now (pos 0) o c.as_slice-2.result.now (to_z w64 (of_z w64 c.value-alone.result))) p) (to_z-of_z w64 c.opened-added.result fits2 ∙ c.opened-added.ensures) in
    let alone = ap (λ a. mix_of_leader leaf (company_of leaf p) (mix_by c.as_slice.result.now (pos 0) (opened_by c.args.answer) c.as_slice-2.result.now a) p) (to_z-of_z w64 c.value-alone.result fits ∙ c.value-alone.ensures) in
    ap (λ m. Residue m c.in_ok-terms.field-0) c.from.ensures
    ∙ ap (Residue c.args.modulus.number) (c.in_ok-terms.ensures ∙ ap (terms_from 0) (c.as_slice-3.ensures.value ∙ c.in_ok-mixed.ensures.mix ∙ added ∙ alone ∙ mix))
