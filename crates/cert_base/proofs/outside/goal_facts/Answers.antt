use Rattle.std.proofs.Common.{List, sym, subst, arith}
use Rattle.std.proofs.lemmas.Grind.{common_steps}
use Rattle.cert_base.specs.declared.fact.Fact.{Fact}
use Rattle.cert_base.specs.GoalEnds.{HoldAtOutsideEnds}
use Rattle.cert_base.proofs.WrongEnds.{outside_ends-met}
use Rattle.cert_base.proofs.outside.goal_facts.Goals as goal

pub returns-clause-facts : goal.returns-clause-facts
returns-clause-facts c = grind (arith, common_steps)

pub returns-clause-met : goal.returns-clause-met
returns-clause-met c =
    subst (λ (facts : List Fact). HoldAtOutsideEnds c.args.leaf.now c.args.pred.now.tree c.args.value c.args.sets.now facts) (sym (returns-clause-facts c))
    (outside_ends-met c.args.leaf.now c.args.pred.now c.args.value c.args.sets.now c.in_ok-facts.ensures.formed c.requires)
