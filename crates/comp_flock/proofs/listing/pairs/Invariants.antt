use Rattle.std.proofs.Common.{◌≡◌}
use Rattle.std.specs.Prelude.{flat_map}
use Rattle.std.specs.List.{range_with_len}
use Rattle.comp_flock.specs.CountLeaf.{moves_from}
use Rattle.comp_flock.proofs.listing.pairs.Given as goal

abbrev pub invariant-loop-p : goal.invariant-loop-p
invariant-loop-p l = l.moves.items ≡ flat_map (moves_from l.worths.keeps l.worths.list.now l.worths.target l.worths.k) (range_with_len 0 l.p)
