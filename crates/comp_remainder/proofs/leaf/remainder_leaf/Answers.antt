use Rattle.std.proofs.Common.{rules, ◌∙◌, sym, subst}
use Rattle.std.specs.Prelude.{AllPairs}
use Rattle.std.proofs.lemmas.Result.{IfOk-weaker}
use Rattle.pop_leaf.specs.LeafModel.{LeafModel}
use Rattle.pop_leaf.specs.Reaction.{Differ}
use Rattle.comp_remainder.proofs.Formed.{formed-as}
use Rattle.comp_remainder.proofs.SingleMoves.{moves-single}
use Rattle.comp_remainder.proofs.leaf.remainder_leaf.Goals as goal

pub of_valid-requires : goal.of_valid-requires
of_valid-requires c =
    formed-as c.args.coefs.now c.args.modulus.number c.args.rest c.args.spare c.in_ok-names.names c.from_vec-moves.result c.from_vec-inputs.result c.from_vec-outputs.result c.from_vec-helpers.result c.in_ok-names.ensures (c.from_vec-moves.ensures ∙ c.in_ok-moves.ensures) (c.from_vec-inputs.ensures ∙ c.in_ok-inputs.ensures) (c.from_vec-outputs.ensures ∙ c.in_ok-outputs.ensures) (c.from_vec-helpers.ensures ∙ c.in_ok-spare_leaders.ensures) c.requires.inputs.some c.requires.inputs.few c.args.modulus.low c.args.modulus.high c.requires.spare

pub returns : goal.returns
returns c =
    IfOk-weaker c.of_valid.result _ _
    (λ leaf h. record {
      built = search rules;
      single = subst (λ (l : LeafModel). AllPairs Differ l.moves) (sym h) (subst (AllPairs Differ) (sym (c.from_vec-moves.ensures ∙ c.in_ok-moves.ensures)) (moves-single c.args.modulus.number c.args.rest));
    })
    c.of_valid.ensures
