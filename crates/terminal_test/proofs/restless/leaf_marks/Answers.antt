use Rattle.std.proofs.Common.{ℕ, List, length, ap, subst, ◌∙◌}
use Rattle.pop_net.specs.Lanes.{crowd_of}
use Rattle.terminal_test.specs.Restless.{AreMarkedByAll}
use Rattle.terminal_test.proofs.RestlessStates.{pairs_in_range, leaf_marked}
use Rattle.terminal_test.proofs.restless.leaf_marks.Goals as goal

pub marked_states-requires : goal.marked_states-requires
marked_states-requires c =
    pairs_in_range c.leaf.result.now c.args.pairs.now _ c.state_count-formed.ensures.formed (c.requires.pairs c.leaf.result.now c.leaf.ensures)
    (ap length c.as_slice.ensures.value ∙ c.in_ok-seen.ensures.size c.leaf.result.now c.leaf.ensures)

pub returns : goal.returns
returns c =
    λ leaf h. leaf_marked c.args.net.now (crowd_of c.args.net.now c.args.crowd.now) c.args.leaf leaf c.args.pairs.now c.in_ok-seen.seen.items c.in_ok-marks.marks h (c.requires.pairs leaf h) c.in_ok-seen.ensures
    (subst (λ (seen : List ℕ). AreMarkedByAll c.args.pairs.now seen c.in_ok-marks.marks) c.as_slice.ensures.value c.in_ok-marks.ensures)
