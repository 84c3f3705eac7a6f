use Rattle.std.proofs.Common.{rules}
use Rattle.cert_base.proofs.split.signs.Goals as goal

pub returns : goal.returns
returns c = search rules

pub below-requires-clause-coefs : goal.below-requires-clause-coefs
below-requires-clause-coefs c = c.requires.coefs

pub below-requires-clause-constant : goal.below-requires-clause-constant
below-requires-clause-constant c = c.requires.constant
