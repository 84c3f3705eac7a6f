use Rattle.std.proofs.Common.{rules}
use Rattle.pres_tokens.proofs.scan.word_kind.Goals as goal

pub returns-then-eq : goal.returns-then-eq
returns-then-eq c = search rules
