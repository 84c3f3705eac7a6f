use Rattle.std.proofs.Common.{◌<◌, length, arith}
use Rattle.cert_tree.proofs.Passed.{present_passed}
use Rattle.cert_tree.proofs.nodes.present_node.Goals as goal

pub returns-clause-passed : goal.returns-clause-passed
returns-clause-passed c =
    let within : c.args.state < length c.args.leaf.now.states = omega (arith, c.state_count.ensures.count) in
    present_passed c.args.leaf.now c.args.dead.now c.args.state c.in_ok-present_cases.field-0 within c.in_ok-present_cases.ensures.cases
