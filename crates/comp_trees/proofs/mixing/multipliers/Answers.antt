use Rattle.std.proofs.Common.{◌∷◌, ◌++◌, [], ◌∙◌, List, map, length, get_or, refl, ap, arith, rules, w64, to_z, of_z, SFits}
use Rattle.std.specs.Prelude.{ℤ, pos, slice_index_or}
use Rattle.std.proofs.lemmas.Int.{to_z-of_z}
use Rattle.std.proofs.lemmas.List.FromFn.{fill_by_all}
use Rattle.comp_trees.specs.LeaderTree.{mix_above, company_of, mix_by}
use Rattle.comp_trees.proofs.SameMix.{mix_short}
use Rattle.comp_trees.proofs.mixing.multipliers.Goals as goal

pub returns-clause-mix : goal.returns-clause-mix
returns-clause-mix c =
    let flows = c.args.parts.now.flows.now in
    let leaf = c.args.leaf.now in
    let filled = fill_by_all (λ q. get_or flows q (pos 0)) flows (length leaf.states) (pos 0) c.requires.flows (λ k l. refl) in
    let wrong_fits : SFits w64 c.args.parts.now.wrong = search rules in
    let opened_fits : SFits w64 c.args.parts.now.opened = search rules in
    let alone_fits : SFits w64 c.args.parts.now.alone = search rules in
    let wrong_is = to_z-of_z w64 c.args.parts.now.wrong wrong_fits in
    let opened_is = to_z-of_z w64 c.args.parts.now.opened opened_fits in
    let alone_is = to_z-of_z w64 c.args.parts.now.alone alone_fits in
    let own : ℤ → List ℤ = λ a. (pos 0 ∷ map (λ q. slice_index_or c.args.parts.now.out.now q (pos 0)) (company_of leaf c.args.leader)) ++ a ∷ [] in
    c.in_ok-extend_from_slice.ensures.items
    ∙ ap (λ xs. c.in_ok-multipliers.multipliers.items ++ xs) (c.as_slice.ensures.value ∙ c.in_ok-own.ensures ∙ ap own alone_is)
    ∙ ap (λ xs. xs ++ own c.args.parts.now.alone) (c.in_ok-multipliers.ensures ∙ ap (λ w. mix_above flows w (to_z w64 (of_z w64 c.args.parts.now.opened)) c.args.leader) wrong_is ∙ ap (λ o. mix_above flows c.args.parts.now.wrong o c.args.leader) opened_is ∙ ap (λ fs. mix_above fs c.args.parts.now.wrong c.args.parts.now.opened c.args.leader) filled)

pub returns-clause-short : goal.returns-clause-short
returns-clause-short c =
    let leaf = c.args.leaf.now in
    let few = c.state_count-formed.ensures.formed.states in
    let mix = mix_by c.args.parts.now.flows.now c.args.parts.now.wrong c.args.parts.now.opened c.args.parts.now.out.now c.args.parts.now.alone in
    let short = mix_short leaf c.args.leader mix c.requires.leader (omega (arith, few)) in
    omega (arith, ap length (returns-clause-mix c), short)
