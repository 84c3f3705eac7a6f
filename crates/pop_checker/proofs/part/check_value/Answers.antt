use Rattle.cert_tree.proofs.Formats.{nodes_format}
use Rattle.std.proofs.Common.{rules}
use Rattle.pop_checker.proofs.part.check_value.Goals as goal

pub check_tree-requires : goal.check_tree-requires
check_tree-requires c =
    record { variables = c.requires.variables; few = c.requires.within.0; within = nodes_format c.args.nodes.now c.requires.within }

pub returns-in-Ok-clause-closes : goal.returns-in-Ok-clause-closes
returns-in-Ok-clause-closes c = search rules

pub returns-in-Ok-clause-right : goal.returns-in-Ok-clause-right
returns-in-Ok-clause-right c = search rules

pub returns-in-Err-Fault-clause-fault : goal.returns-in-Err-Fault-clause-fault
returns-in-Err-Fault-clause-fault c = search rules

pub returns-in-Err-Fault-clause-accepts : goal.returns-in-Err-Fault-clause-accepts
returns-in-Err-Fault-clause-accepts c = search rules
