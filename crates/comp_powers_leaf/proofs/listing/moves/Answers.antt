use Rattle.std.proofs.Common.{◌≡◌, ◌∙◌, [], length, ap, arith}
use Rattle.std.specs.Prelude.{flat_map}
use Rattle.std.specs.List.{range_with_len}
use Rattle.comp_trees.proofs.Members.{flat_range_more}
use Rattle.comp_powers_leaf.specs.PowersLeaf.{roles, moves_at, fixed_count}
use Rattle.comp_powers_leaf.proofs.listing.moves.Goals as goal

pub loop-p-preserved : goal.loop-p-preserved
loop-p-preserved c =
    flat_range_more (λ p. flat_map (moves_at c.args.coefs.now c.args.k p) (range_with_len 0 (fixed_count c.args.k))) c.loop-p.p [] c.loop-p.moves.items c.as_slice.result.now c.extend_from_slice.new.self.items c.loop-p.invariant (c.as_slice.ensures.value ∙ c.in_ok-own.ensures) c.in_ok-extend_from_slice.ensures.items

pub returns : goal.returns
returns c =
    let e : length c.args.roles.now ≡ length (roles c.args.coefs.now c.args.k) = ap length c.requires.roles in
    let p_is : c.loop-p.p ≡ length (roles c.args.coefs.now c.args.k) = omega (arith, e, c.loop-p-test.false, c.loop-p.auto.p-end) in
    c.loop-p.invariant
    ∙ ap (λ n. flat_map (λ p. flat_map (moves_at c.args.coefs.now c.args.k p) (range_with_len 0 (fixed_count c.args.k))) (range_with_len 0 n)) p_is
