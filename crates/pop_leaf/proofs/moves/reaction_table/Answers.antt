use Rattle.std.proofs.Common.{length, ap, sym, ◌∙◌}
use Rattle.pop_leaf.proofs.Tables.{entered_slice}
use Rattle.pop_leaf.proofs.moves.reaction_table.Goals as goal

pub loop-i-preserved : goal.loop-i-preserved
loop-i-preserved c =
    entered_slice c.args.states c.loop-i.i c.args.moves.now _ c.loop-i.table.items _ _ c.loop-i.table.len c.requires.below c.loop-i-test.true c.enter.ensures c.deref_mut.ensures.value (sym c.deref_mut.ensures.len ∙ ap length c.deref_mut.ensures.value) c.loop-i.invariant
