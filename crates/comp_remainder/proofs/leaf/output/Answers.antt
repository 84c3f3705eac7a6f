use Rattle.std.proofs.Common.{rules}
use Rattle.comp_remainder.proofs.leaf.output.Goals as goal

pub returns-then-q-modulus : goal.returns-then-q-modulus
returns-then-q-modulus c = search rules
