use Rattle.std.proofs.Common.{◌∙◌, ◌++◌, ◌∷◌, [], ℕ, ap, arith}
use Rattle.std.specs.Prelude.{if◌then◌else◌}
use Rattle.std.proofs.lemmas.Grind.{common_steps}
use Rattle.cert_base.specs.FactsAndCases.{is_in}
use Rattle.comp_trees.proofs.PlacesMore.{places_more}
use Rattle.comp_powers.specs.PowersProof.{hubs}
use Rattle.comp_powers.proofs.multipliers.starting.Goals as goal

pub loop-i-preserved : goal.loop-i-preserved
loop-i-preserved c =
    places_more (is_in hubs) c.args.leaf.now.inputs c.loop-i.i c.input.result c.is_hub-passes.result c.loop-i.inputs.items c.push_if.new.numbers.items c.input.ensures.start c.is_hub-passes.ensures c.loop-i.invariant
    (c.in_ok-push_if.ensures ∙ ap (λ (n : ℕ). c.loop-i.inputs.items ++ (if c.is_hub-passes.result then (n ∷ []) else [])) c.from.ensures)

pub returns : goal.returns
returns c = grind (arith, common_steps)
