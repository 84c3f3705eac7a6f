use Rattle.std.proofs.Common.{[], refl}
use Rattle.comp_trees.proofs.Members.{flat_range_more}
use Rattle.comp_flock.specs.CountLeaf.{pair_moves}
use Rattle.comp_flock.proofs.listing.moves_from.Goals as goal

pub loop-q-preserved : goal.loop-q-preserved
loop-q-preserved c =
    let of = pair_moves c.args.worths.now.keeps c.args.worths.now.list.now c.args.worths.now.target c.args.worths.now.k c.args.p in
    flat_range_more of c.loop-q.q [] c.loop-q.moves.items (of c.loop-q.q) c.push_pair.new.moves.items c.loop-q.invariant refl c.in_ok-push_pair.ensures
