use Rattle.std.proofs.Common.{List, sym, subst, arith}
use Rattle.std.proofs.lemmas.Grind.{common_steps}
use Rattle.cert_base.specs.declared.fact.Fact.{Fact}
use Rattle.cert_base.specs.Ends.{HoldAtWrongEnds}
use Rattle.cert_base.proofs.WrongEnds.{wrong_ends-met}
use Rattle.cert_base.proofs.base.base_facts.Goals as goal

pub returns-clause-facts : goal.returns-clause-facts
returns-clause-facts c = grind (arith, common_steps)

pub returns-clause-met : goal.returns-clause-met
returns-clause-met c =
    subst (λ (facts : List Fact). HoldAtWrongEnds c.args.leaf.now c.args.pred.now.tree c.args.value facts) (sym (returns-clause-facts c))
    (wrong_ends-met c.args.leaf.now c.args.pred.now c.args.value c.in_ok-facts.ensures.formed c.requires)
