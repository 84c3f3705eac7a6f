use Rattle.cert_tree.proofs.Formats.{nodes_format}
use Rattle.cert_goals.proofs.goal.check_goal.Goals as goal

pub check_sets_and_nodes-requires-clause-nodes : goal.check_sets_and_nodes-requires-clause-nodes
check_sets_and_nodes-requires-clause-nodes c =
    record {
      variables = c.requires.variables;
      few = c.requires.within.nodes.0;
      within = nodes_format c.args.goal.now.nodes c.requires.within.nodes;
    }
