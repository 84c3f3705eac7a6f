use Rattle.std.proofs.Common.{◌∙◌, sym}
use Rattle.cert_tree.proofs.Passed.{first_passed}
use Rattle.cert_tree.proofs.nodes.first_node.Goals as goal

pub returns-clause-passed : goal.returns-clause-passed
returns-clause-passed c =
    let named = rw (c.state_count.ensures.count, c.as_slice.ensures) at (sym c.name_states.ensures ∙ c.if-not-name_states.false) in
    first_passed c.args.leaf.now c.args.set.now c.in_ok-first_cases.field-0 named c.in_ok-first_cases.ensures.cases
