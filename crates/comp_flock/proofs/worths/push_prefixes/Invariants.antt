use Rattle.std.proofs.Common.{◌≡◌, ◌++◌, ◌-◌}
use Rattle.comp_flock.specs.PrefixLeaf.{prefixes}
use Rattle.comp_flock.proofs.worths.push_prefixes.Given as goal

abbrev pub invariant-loop-j : goal.invariant-loop-j
invariant-loop-j l = l.worths.items ++ prefixes l.enough (l.count - l.j) ≡ l.fn.worths.items ++ prefixes l.enough l.count
