use Rattle.std.proofs.Common.{◌∙◌, []}
use Rattle.comp_trees.proofs.Members.{flat_range_more}
use Rattle.comp_flock.specs.CountLeaf.{moves_from}
use Rattle.comp_flock.proofs.listing.pairs.Goals as goal

pub loop-p-preserved : goal.loop-p-preserved
loop-p-preserved c =
    flat_range_more (moves_from c.args.worths.now.keeps c.args.worths.now.list.now c.args.worths.now.target c.args.worths.now.k) c.loop-p.p [] c.loop-p.moves.items c.as_slice.result.now c.extend_from_slice.new.self.items c.loop-p.invariant (c.as_slice.ensures.value ∙ c.in_ok-own.ensures) c.in_ok-extend_from_slice.ensures.items
