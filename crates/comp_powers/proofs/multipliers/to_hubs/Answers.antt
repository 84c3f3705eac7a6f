use Rattle.std.proofs.Common.{arith}
use Rattle.std.proofs.lemmas.Grind.{common_steps}
use Rattle.cert_base.specs.FactsAndCases.{puts_into}
use Rattle.comp_trees.proofs.PlacesMore.{places_more}
use Rattle.comp_powers.specs.PowersProof.{hubs}
use Rattle.comp_powers.proofs.multipliers.to_hubs.Goals as goal

pub loop-t-preserved : goal.loop-t-preserved
loop-t-preserved c =
    places_more (puts_into hubs) c.args.leaf.now.moves c.loop-t.t c.move_at.result c.makes_hub-passes.result c.loop-t.moves.items c.push_if.new.numbers.items c.move_at.ensures c.makes_hub-passes.ensures c.loop-t.invariant c.in_ok-push_if.ensures

pub returns : goal.returns
returns c = grind (arith, common_steps)
