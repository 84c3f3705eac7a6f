use Rattle.std.proofs.Common.{◌≡◌}
use Rattle.pres_ast.specs.TreeOf.{tree_of}
use Rattle.pres_read.specs.Reading.{negation}
use Rattle.pres_read.proofs.unit.negated.Given as goal

abbrev pub invariant-loop : goal.invariant-loop
invariant-loop l = tree_of l.whole ≡ negation l.counter (tree_of l.fn.tree)
