use Rattle.std.proofs.Common.{◌≡◌, ◌++◌}
use Rattle.std.specs.Prelude.{flat_map}
use Rattle.std.specs.List.{range_with_len}
use Rattle.comp_threshold.specs.ThresholdLeaf.{span_of, threshold_pairs, threshold_turns}
use Rattle.comp_threshold.proofs.listing.moves.Given as goal

abbrev pub invariant-loop-p : goal.invariant-loop-p
invariant-loop-p l = l.moves.items ≡ flat_map (threshold_pairs l.width.number l.t) (range_with_len 0 l.p)

abbrev pub invariant-loop-p-2 : goal.invariant-loop-p-2
invariant-loop-p-2 l =
    l.moves.items ≡ flat_map (threshold_pairs l.width.number l.t) (range_with_len 0 (span_of l.width.number)) ++ flat_map (threshold_turns l.width.number l.t) (range_with_len 0 l.p)
