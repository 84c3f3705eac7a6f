use Rattle.std.proofs.Common.{◌≡◌, map}
use Rattle.std.specs.List.{range_with_len}
use Rattle.comp_flock.specs.CountLeaf.{count_state_name}
use Rattle.comp_flock.proofs.naming.names.Given as goal

abbrev pub invariant-loop-q : goal.invariant-loop-q
invariant-loop-q l = l.names.items ≡ map (count_state_name l.worths.list.now) (range_with_len 0 l.q)
