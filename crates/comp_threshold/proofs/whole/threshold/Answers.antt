use Rattle.std.proofs.Common.{rules}
use Rattle.comp_threshold.proofs.whole.threshold.Goals as goal

pub returns-then-s-gt-WIDTH_LIMIT : goal.returns-then-s-gt-WIDTH_LIMIT
returns-then-s-gt-WIDTH_LIMIT c = record { built = tt; narrow = tt; wide = search rules }
