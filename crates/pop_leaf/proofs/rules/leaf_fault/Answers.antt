use Rattle.std.proofs.Common.{rules}
use Rattle.pop_leaf.proofs.rules.leaf_fault.Goals as goal

pub returns-then-helpers-gt-HELPER_LIMIT : goal.returns-then-helpers-gt-HELPER_LIMIT
returns-then-helpers-gt-HELPER_LIMIT c = search rules

pub returns-in_err-helper : goal.returns-in_err-helper
returns-in_err-helper c = search rules

pub returns : goal.returns
returns c = search rules
