use Rattle.std.proofs.Common.{◌≡◌, map}
use Rattle.std.specs.List.{range_with_len}
use Rattle.comp_threshold.specs.ThresholdLeaf.{threshold_state_name}
use Rattle.comp_threshold.proofs.naming.names.Given as goal

abbrev pub invariant-loop-q : goal.invariant-loop-q
invariant-loop-q l = l.names.items ≡ map (threshold_state_name l.width.number) (range_with_len 0 l.q)
