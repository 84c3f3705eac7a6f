use Rattle.std.proofs.Common.{◌-◌, length, drop}
use Rattle.pop_leaf.specs.ReactionTable.{IsTable}
use Rattle.pop_leaf.proofs.moves.reaction_table.Given as goal

abbrev pub invariant-loop-i : goal.invariant-loop-i
invariant-loop-i l = IsTable l.states (drop (length l.moves - l.i) l.moves) l.table.items
