use Rattle.std.proofs.Common.{rules}
use Rattle.pres_tokens.proofs.scan.byte_kind.Goals as goal

pub returns-in_default : goal.returns-in_default
returns-in_default c = search rules
