use Rattle.std.proofs.Common.{◌≡◌, ℕ, ◌++◌, map}
use Rattle.std.specs.Prelude.{All}
use Rattle.std.specs.List.{concat}
use Rattle.std.specs.BTreeMap.{btree_map_len}
use Rattle.pop_leaf.specs.NetModel.{Tuple, IsTuple, HasStates}
use Rattle.pop_net.specs.Lanes.{crowd_of}
use Rattle.pop_crowd.specs.Tally.{crowd_line, crowd_lines}
use Rattle.pop_crowd.specs.Shown.{shown}
use Rattle.pop_crowd.proofs.lines.lines_of.Given as goal

abbrev pub invariant-loop-tuple : goal.invariant-loop-tuple
invariant-loop-tuple l =
    record {
      written : l.text.items ++ concat (map (λ (e : Tuple × ℕ). crowd_line l.net e.0 e.1) (shown l.left.entries)) ≡ crowd_lines l.net (crowd_of l.net l.words);
      states : All (λ (e : Tuple × ℕ). IsTuple l.net e.0 × HasStates l.net e.0) (shown l.left.entries);
    }

abbrev pub decreases-loop-tuple : goal.decreases-loop-tuple
decreases-loop-tuple l = btree_map_len l.left
