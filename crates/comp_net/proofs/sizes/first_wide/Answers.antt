use Rattle.std.proofs.Common.{rules}
use Rattle.comp_net.proofs.sizes.first_wide.Goals as goal

pub returns-then-sizes-gt-WIDE_LEAF_LIMIT-clause-first : goal.returns-then-sizes-gt-WIDE_LEAF_LIMIT-clause-first
returns-then-sizes-gt-WIDE_LEAF_LIMIT-clause-first c = search rules
