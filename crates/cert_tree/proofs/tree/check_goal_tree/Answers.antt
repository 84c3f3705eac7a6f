use Rattle.std.proofs.Common.{List, sym, subst}
use Rattle.cert_base.specs.declared.fact.Fact.{Fact}
use Rattle.cert_tree.specs.Frames.{IsFit}
use Rattle.cert_tree.proofs.Starts.{goal_fit}
use Rattle.cert_tree.proofs.Trees.{goal_tree_checked}
use Rattle.cert_tree.proofs.tree.check_goal_tree.Goals as goal

pub walk_nodes-requires-clause-fit : goal.walk_nodes-requires-clause-fit
walk_nodes-requires-clause-fit c =
    subst (λ (facts : List Fact). IsFit (0, facts)) (sym c.in_ok-facts.ensures.facts)
    (goal_fit c.args.leaf.now c.args.pred.now c.args.value c.args.sets.now c.state_count-formed.ensures.formed c.requires.sets)

pub returns : goal.returns
returns c =
    goal_tree_checked c.args.leaf.now c.args.dead.now c.args.pred.now c.args.value c.args.sets.now c.args.nodes.now c.in_ok-facts.facts c.walk_nodes.result c.state_count-formed.ensures.formed c.requires.places c.vars-limits.ensures.limits.atoms c.in_ok-facts.ensures.facts c.in_ok-facts.ensures.met c.walk_nodes.ensures
