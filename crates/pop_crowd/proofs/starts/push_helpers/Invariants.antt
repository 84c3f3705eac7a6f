use Rattle.std.proofs.Common.{◌≡◌, ◌++◌, map}
use Rattle.std.specs.List.{range_with_len}
use Rattle.pop_leaf.specs.InputCrowd.{helper_of}
use Rattle.pop_net.specs.Lanes.{crowd_of, AreValid}
use Rattle.pop_crowd.proofs.starts.push_helpers.Given as goal

abbrev pub invariant-loop-helper : goal.invariant-loop-helper
invariant-loop-helper l =
    record {
      helpers : crowd_of l.net l.words.items ≡ crowd_of l.net l.fn.words.items ++ map (helper_of l.net) (range_with_len 0 l.helper);
      valid : AreValid l.net l.words.items;
    }
