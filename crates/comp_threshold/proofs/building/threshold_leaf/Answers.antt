use Rattle.std.proofs.Common.{◌∙◌, ap, sym, subst, arith, rules, w64, SFits}
use Rattle.std.specs.Prelude.{nat_abs, AllPairs}
use Rattle.std.proofs.lemmas.Int.{to_z-of_z}
use Rattle.std.proofs.lemmas.Result.{IfOk-weaker}
use Rattle.comp_threshold.specs.ThresholdLeaf.{place_of_value}
use Rattle.comp_threshold.proofs.Places.{width-bound, width-coef}
use Rattle.pop_leaf.specs.LeafModel.{LeafModel}
use Rattle.pop_leaf.specs.Reaction.{Differ}
use Rattle.comp_threshold.proofs.Single.{moves-single}
use Rattle.comp_threshold.proofs.Formed.{built-formed}
use Rattle.comp_threshold.proofs.building.threshold_leaf.Goals as goal

pub place-t-requires : goal.place-t-requires
place-t-requires c =
    let fits : SFits w64 c.args.bound = search rules in
    let same = to_z-of_z w64 c.args.bound fits in
    let wide = width-bound c.args.coefs.now c.args.bound in
    let w = c.requires.exact in
    omega (arith, ap nat_abs same, wide, w)

pub built_leaf-requires-clause-within : goal.built_leaf-requires-clause-within
built_leaf-requires-clause-within c =
    λ k d l. (let wide = width-coef c.args.coefs.now c.args.bound k d l in let w = c.requires.exact in omega (arith, wide, w))

pub built_leaf-requires-clause-formed : goal.built_leaf-requires-clause-formed
built_leaf-requires-clause-formed c =
    let fits : SFits w64 c.args.bound = search rules in
    built-formed c.args.coefs.now c.args.bound c.args.width.number c.place-t.result c.requires.exact (c.place-t.ensures ∙ ap (place_of_value c.args.width.number) (to_z-of_z w64 c.args.bound fits)) c.requires.inputs.some c.requires.inputs.few c.args.width.within

pub returns : goal.returns
returns c =
    IfOk-weaker c.built_leaf.result _ _
    (λ leaf e. record {
      built = search rules;
      single = subst (λ (l : LeafModel). AllPairs Differ l.moves) (sym e) (moves-single c.args.width.number c.place-t.result);
    })
    c.built_leaf.ensures
