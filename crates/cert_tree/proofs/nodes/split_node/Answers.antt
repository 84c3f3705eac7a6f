use Rattle.std.proofs.Common.{◌∙◌, sym}
use Rattle.cert_tree.proofs.Passed.{split_passed}
use Rattle.cert_tree.proofs.nodes.split_node.Goals as goal

pub returns-clause-passed : goal.returns-clause-passed
returns-clause-passed c =
    let named = rw (c.count_variables.ensures, c.as_slice.ensures) at (sym c.name_facts.ensures ∙ c.if-not-name_facts.false) in
    split_passed c.args.leaf.now c.args.row.now c.in_ok-split_cases.field-0 named c.in_ok-split_cases.ensures.cases
