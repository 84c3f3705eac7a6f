use Rattle.std.proofs.Common.{◌≡◌, length}
use Rattle.comp_flock.specs.PrefixLeaf.{prefixes}
use Rattle.comp_flock.proofs.worths.count_prefixes.Given as goal

abbrev pub invariant-loop-i : goal.invariant-loop-i
invariant-loop-i l = l.ones ≡ length (prefixes l.enough l.i)
