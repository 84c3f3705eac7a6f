use Rattle.std.proofs.Common.{[], refl}
use Rattle.comp_trees.proofs.Members.{flat_range_more}
use Rattle.comp_powers_leaf.specs.PowersLeaf.{pieces_of}
use Rattle.comp_powers_leaf.proofs.placing.pieces.Goals as goal

pub loop-i-preserved : goal.loop-i-preserved
loop-i-preserved c =
    flat_range_more pieces_of c.loop-i.i [] c.loop-i.roles.items (pieces_of c.loop-i.i) c.extend_from_slice.new.self.items c.loop-i.invariant refl c.in_ok-extend_from_slice.ensures.items
