use Rattle.std.proofs.Common.{rules}
use Rattle.pres_tokens.proofs.scan.pair_kind.Goals as goal

pub returns-in-60-eq61 : goal.returns-in-60-eq61
returns-in-60-eq61 c = search rules
