use Rattle.std.proofs.Common.{◌<◌, ◌∙◌, length, arith}
use Rattle.cert_tree.proofs.Passed.{twin_passed}
use Rattle.cert_tree.proofs.nodes.twin_node.Goals as goal

pub returns-clause-passed : goal.returns-clause-passed
returns-clause-passed c =
    let within : c.args.state < length c.args.leaf.now.states = omega (arith, c.state_count.ensures.count) in
    let case = rw c.in-Some.is at c.in_ok-own.ensures.case in
    let items = rw c.new-cases.ensures.items at c.in_ok-push.ensures.items in
    twin_passed c.args.leaf.now c.args.dead.now c.args.state c.in-Some.own c.from_vec.result within case (c.from_vec.ensures ∙ items)
