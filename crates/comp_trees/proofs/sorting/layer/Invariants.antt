use Rattle.std.proofs.Common.{◌≡◌, take}
use Rattle.std.specs.Prelude.{◌==◌}
use Rattle.cert_base.specs.FactsAndCases.{places_from}
use Rattle.comp_trees.specs.SortedLayers.{leader_kind}
use Rattle.comp_trees.proofs.sorting.layer.Given as goal

abbrev pub invariant-loop-t : goal.invariant-loop-t
invariant-loop-t l = l.moves.items ≡ places_from 0 (λ t. leader_kind l.leaders t == l.kind) (take l.t l.leaf.moves)
