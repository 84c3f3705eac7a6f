use Rattle.std.proofs.Common.{◌∙◌, ap, length, arith, rules, w64, SFits}
use Rattle.std.specs.Prelude.{nat_abs}
use Rattle.std.proofs.lemmas.Int.{to_z-of_z}
use Rattle.pres_ast.specs.PredTree.{LessThan}
use Rattle.comp_threshold.specs.ThresholdLeaf.{place_of_value}
use Rattle.comp_threshold.proofs.Places.{width-bound}
use Rattle.comp_threshold.proofs.Valid.{whole-valid, outputs-are, states-are}
use Rattle.comp_threshold.proofs.whole.leaf_proof.Goals as goal

pub place-t-requires : goal.place-t-requires
place-t-requires c =
    let fits : SFits w64 c.args.bound = search rules in
    let same = to_z-of_z w64 c.args.bound fits in
    let wide = width-bound c.args.coefs.now c.args.bound in
    let w = c.requires.exact in
    omega (arith, ap nat_abs same, wide, w)

pub invariant_of-bounded-clause-states : goal.invariant_of-bounded-clause-states
invariant_of-bounded-clause-states c =
    states-are c.args.coefs.now c.args.bound c.args.width.number c.args.leaf.now c.requires.exact c.requires.built

pub invariant_of-bounded-clause-outputs : goal.invariant_of-bounded-clause-outputs
invariant_of-bounded-clause-outputs c =
    let fits : SFits w64 c.args.bound = search rules in
    outputs-are c.args.coefs.now c.args.bound c.args.width.number c.place-t.result c.args.leaf.now c.requires.exact (c.place-t.ensures ∙ ap (place_of_value c.args.width.number) (to_z-of_z w64 c.args.bound fits)) c.requires.built

pub returns : goal.returns
returns c =
    let fits : SFits w64 c.args.bound = search rules in
    whole-valid c.args.coefs.now c.args.bound c.args.width.number c.place-t.result c.args.leaf.now c.in_ok-pred.pred c.in_ok-layers.layers c.in_ok-on_true.on_true c.in_ok-on_true.on_false
    c.requires.exact (c.place-t.ensures ∙ ap (place_of_value c.args.width.number) (to_z-of_z w64 c.args.bound fits)) c.requires.built c.requires.single (c.in_ok-pred.ensures ∙ ap (λ z. record { variables = length c.args.coefs.now; tree = LessThan c.args.coefs.now z }) (to_z-of_z w64 c.args.bound fits)) c.in_ok-layers.ensures c.in_ok-on_true.ensures.on_true c.in_ok-on_true.ensures.on_false c.requires.sum.some c.requires.sum.few c.args.width.within
