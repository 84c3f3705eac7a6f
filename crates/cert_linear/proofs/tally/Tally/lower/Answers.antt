use Rattle.std.proofs.Common.{rules}
use Rattle.cert_linear.proofs.tally.Tally.lower.Goals as goal

pub returns-clause-kept : goal.returns-clause-kept
returns-clause-kept c = λ facts is. c.forget.ensures.kept c.args.len facts

pub returns-then-stable-len-clause-within : goal.returns-then-stable-len-clause-within
returns-then-stable-len-clause-within c = search rules
