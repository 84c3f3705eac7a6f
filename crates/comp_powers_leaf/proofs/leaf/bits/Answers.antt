use Rattle.std.proofs.Common.{◌∙◌, subst, ap, sym, arith}
use Rattle.std.specs.Prelude.{pos}
use Rattle.comp_trees.proofs.Members.{map_range_push}
use Rattle.comp_powers_leaf.specs.PowersLeaf.{IsRole, place, bit_role}
use Rattle.comp_powers_leaf.proofs.Formed.{bit-valid}
use Rattle.comp_powers_leaf.proofs.leaf.bits.Goals as goal

pub place_in-requires-clause-there : goal.place_in-requires-clause-there
place_in-requires-clause-there c =
    subst (IsRole c.args.coefs.now c.args.k) (sym c.bit.ensures) (bit-valid c.args.coefs.now (pos 0) c.args.k c.args.n c.loop-i.i (omega (arith, c.loop-i-test.true)))

pub loop-i-preserved : goal.loop-i-preserved
loop-i-preserved c =
    map_range_push (λ i. place c.args.coefs.now c.args.k (bit_role c.args.n i)) c.loop-i.i c.loop-i.places.items c.push.new.self.items c.place_in.result c.loop-i.invariant
    (c.place_in.ensures ∙ ap (place c.args.coefs.now c.args.k) c.bit.ensures) c.in_ok-push.ensures.items
