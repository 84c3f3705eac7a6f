use Rattle.std.proofs.Common.{◌≡◌}
use Rattle.std.specs.Prelude.{flat_map}
use Rattle.std.specs.List.{range_with_len}
use Rattle.comp_flock.specs.CountLeaf.{pair_moves}
use Rattle.comp_flock.proofs.listing.moves_from.Given as goal

abbrev pub invariant-loop-q : goal.invariant-loop-q
invariant-loop-q l = l.moves.items ≡ flat_map (pair_moves l.worths.keeps l.worths.list.now l.worths.target l.worths.k l.p) (range_with_len 0 l.q)
