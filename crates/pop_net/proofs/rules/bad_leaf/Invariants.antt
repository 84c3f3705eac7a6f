use Rattle.std.proofs.Common.{◌≡◌, ℕ, ◌<◌, length, get_or}
use Rattle.pop_leaf.specs.LeafModel.{LeafModel, IsLeaf}
use Rattle.pop_net.proofs.rules.bad_leaf.Given as goal

abbrev pub invariant-loop-i : goal.invariant-loop-i
invariant-loop-i l =
    record {
      equal : (k : ℕ) (d : LeafModel) → k < l.i → length (get_or l.leaves k d).inputs ≡ l.inputs;
      formed : (k : ℕ) (d : LeafModel) → k < l.i → IsLeaf (get_or l.leaves k d);
    }
