use Rattle.std.proofs.Common.{rules}
use Rattle.cert_linear.proofs.tally.Tally.keep.Goals as goal

pub returns-in_default-clause-kept : goal.returns-in_default-clause-kept
returns-in_default-clause-kept c = c.forget-in_default.ensures.kept c.args.stable c.args.facts.now

pub returns-then-are_same-clause-keeps : goal.returns-then-are_same-clause-keeps
returns-then-are_same-clause-keeps c = search rules
