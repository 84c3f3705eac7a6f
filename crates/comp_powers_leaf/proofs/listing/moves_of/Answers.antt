use Rattle.std.proofs.Common.{[], length, refl, ap, arith}
use Rattle.comp_trees.proofs.Members.{flat_range_more}
use Rattle.comp_powers_leaf.specs.PowersLeaf.{moves_at}
use Rattle.comp_powers_leaf.proofs.Moves.{fixed-first}
use Rattle.comp_powers_leaf.proofs.listing.moves_of.Goals as goal

pub push_move-requires-clause-second : goal.push_move-requires-clause-second
push_move-requires-clause-second c =
    let f = fixed-first c.args.coefs.now c.args.k in
    let e = ap length c.requires.roles in
    omega (arith, f, e, c.loop-q-test.true)

pub loop-q-preserved : goal.loop-q-preserved
loop-q-preserved c =
    flat_range_more (moves_at c.args.coefs.now c.args.k c.args.p) c.loop-q.q [] c.loop-q.moves.items (moves_at c.args.coefs.now c.args.k c.args.p c.loop-q.q) c.push_move.new.moves.items c.loop-q.invariant refl c.in_ok-push_move.ensures
