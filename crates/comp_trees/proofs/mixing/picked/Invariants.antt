use Rattle.std.proofs.Common.{◌≡◌, take, map}
use Rattle.std.specs.Prelude.{pos, slice_index_or}
use Rattle.comp_trees.proofs.mixing.picked.Given as goal

abbrev pub invariant-loop-q : goal.invariant-loop-q
invariant-loop-q l = l.multipliers.items ≡ map (λ q. slice_index_or l.out q (pos 0)) (take l.q-index l.states)
