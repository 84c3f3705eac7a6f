use Rattle.std.proofs.Common.{◌≡◌}
use Rattle.std.specs.Prelude.{flat_map}
use Rattle.std.specs.List.{range_with_len}
use Rattle.comp_remainder.specs.RemainderLeaf.{remainder_pairs}
use Rattle.comp_remainder.proofs.listing.moves.Given as goal

abbrev pub invariant-loop-p : goal.invariant-loop-p
invariant-loop-p l = l.moves.items ≡ flat_map (remainder_pairs l.modulus.number l.rest) (range_with_len 0 l.p)
