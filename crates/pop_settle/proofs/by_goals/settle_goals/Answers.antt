use Rattle.pop_settle.proofs.ChosenLayers.{chosen_layers}
use Rattle.pop_settle.proofs.HushedLeaves.{valid_hushed}
use Rattle.pop_settle.proofs.GoalGiven.{settles_given}
use Rattle.pop_settle.proofs.by_goals.settle_goals.Goals as goal

pub settle-requires-clause-layers : goal.settle-requires-clause-layers
settle-requires-clause-layers c =
    rw (c.in_ok-hushed.ensures, c.in_ok-chosen.ensures) (chosen_layers c.args.net.now c.args.proof.now c.args.counts.now c.requires.proof)

pub settle-requires-clause-valid : goal.settle-requires-clause-valid
settle-requires-clause-valid c =
    rw c.in_ok-hushed.ensures (valid_hushed c.args.net.now c.in_ok-chosen.chosen c.args.crowd c.requires.crowd)

pub returns : goal.returns
returns c =
    settles_given c.args.net.now c.args.proof.now c.args.counts.now c.args.crowd c.settle.result c.leaf_count-formed.ensures.formed c.requires.crowd
    (rw (c.in_ok-hushed.ensures, c.in_ok-chosen.ensures) at c.settle.ensures)
