use Rattle.std.proofs.Common.{length, rules}
use Rattle.pop_leaf.specs.LeafModel.{IsLeaf, IsMoveBelow}
use Rattle.pop_leaf.proofs.Quiet.{All-slice_get}
use Rattle.pop_settle.proofs.walk.Walk.make.Goals.{After-move_at-t}
use Rattle.pop_settle.proofs.walk.Walk.make.Goals as goal

below : (c : After-move_at-t) → IsMoveBelow (length c.leaf.result.now.states) c.move_at-t.result
below c =
    let is = All-slice_get IsLeaf c.args.net.now.leaves c.args.take.leaf c.leaf.result.now c.requires.formed.leaves c.leaf.ensures in
    All-slice_get (IsMoveBelow (length c.leaf.result.now.states)) c.leaf.result.now.moves c.args.take.step c.move_at-t.result is.moves c.move_at-t.ensures

pub change-requires-clause-state_in : goal.change-requires-clause-state_in
change-requires-clause-state_in c = rw c.leaf.ensures (below (goal.at.change-requires-clause-state_in c).After-move_at-t).2

pub change-requires-2-clause-state_in : goal.change-requires-2-clause-state_in
change-requires-2-clause-state_in c = rw c.leaf.ensures (below (goal.at.change-requires-2-clause-state_in c).After-move_at-t).3

pub returns-clause-takes : goal.returns-clause-takes
returns-clause-takes c = search rules
