use Rattle.std.proofs.Common.{◌∙◌, []}
use Rattle.comp_trees.proofs.Members.{flat_range_more}
use Rattle.comp_remainder.specs.RemainderLeaf.{remainder_pairs}
use Rattle.comp_remainder.proofs.listing.moves.Goals as goal

pub loop-p-preserved : goal.loop-p-preserved
loop-p-preserved c =
    flat_range_more (remainder_pairs c.args.modulus.number c.args.rest) c.loop-p.p [] c.loop-p.moves.items c.as_slice.result.now c.extend_from_slice.new.self.items c.loop-p.invariant (c.as_slice.ensures.value ∙ c.in_ok-pairs.ensures) c.in_ok-extend_from_slice.ensures.items
