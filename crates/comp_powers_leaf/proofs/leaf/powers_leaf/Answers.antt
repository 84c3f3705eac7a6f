use Rattle.std.proofs.Common.{◌∙◌, ap, sym, subst, length, map, rules, w64, SFits}
use Rattle.std.specs.Prelude.{AllPairs}
use Rattle.std.specs.List.{range_with_len}
use Rattle.std.proofs.lemmas.Int.{to_z-of_z}
use Rattle.std.proofs.lemmas.Result.{IfOk-weaker}
use Rattle.pop_leaf.specs.LeafModel.{LeafModel, IsLeaf}
use Rattle.pop_leaf.specs.Reaction.{Differ}
use Rattle.comp_powers_leaf.specs.PowersLeaf.{state_name_at, says, place, all_helper_roles}
use Rattle.comp_powers_leaf.proofs.Formed.{powers-formed, leaf_as}
use Rattle.comp_powers_leaf.proofs.Single.{moves-single}
use Rattle.comp_powers_leaf.proofs.leaf.powers_leaf.Goals as goal

pub of_valid-requires : goal.of_valid-requires
of_valid-requires c =
    let fits : SFits w64 c.args.bound = search rules in
    let same = to_z-of_z w64 c.args.bound fits in
    let is = leaf_as c.args.coefs.now c.args.bound c.args.k c.args.spare c.in_ok-names.names c.from_vec-moves.result c.from_vec-inputs.result c.from_vec-outputs.result c.from_vec-helpers.result
    (c.in_ok-names.ensures ∙ ap (λ n. map state_name_at (range_with_len 0 n)) (ap length (c.as_slice-list.ensures.value ∙ c.in_ok-roles.ensures)))
    (c.from_vec-moves.ensures ∙ c.in_ok-moves.ensures)
    (c.from_vec-inputs.ensures ∙ c.in_ok-inputs.ensures)
    (c.from_vec-outputs.ensures ∙ c.in_ok-outputs.ensures ∙ ap (map says) (c.as_slice-list.ensures.value ∙ c.in_ok-roles.ensures))
    (c.from_vec-helpers.ensures ∙ c.in_ok-helpers.ensures ∙ ap (λ b. map (place c.args.coefs.now c.args.k) (all_helper_roles b c.args.k c.args.spare)) same) in
    subst IsLeaf (sym is) (powers-formed c.args.coefs.now c.args.bound c.args.k c.args.spare c.requires.range c.requires.room)

pub returns : goal.returns
returns c =
    let fits : SFits w64 c.args.bound = search rules in
    let same = to_z-of_z w64 c.args.bound fits in
    let is = leaf_as c.args.coefs.now c.args.bound c.args.k c.args.spare c.in_ok-names.names c.from_vec-moves.result c.from_vec-inputs.result c.from_vec-outputs.result c.from_vec-helpers.result
    (c.in_ok-names.ensures ∙ ap (λ n. map state_name_at (range_with_len 0 n)) (ap length (c.as_slice-list.ensures.value ∙ c.in_ok-roles.ensures)))
    (c.from_vec-moves.ensures ∙ c.in_ok-moves.ensures)
    (c.from_vec-inputs.ensures ∙ c.in_ok-inputs.ensures)
    (c.from_vec-outputs.ensures ∙ c.in_ok-outputs.ensures ∙ ap (map says) (c.as_slice-list.ensures.value ∙ c.in_ok-roles.ensures))
    (c.from_vec-helpers.ensures ∙ c.in_ok-helpers.ensures ∙ ap (λ b. map (place c.args.coefs.now c.args.k) (all_helper_roles b c.args.k c.args.spare)) same) in
    IfOk-weaker c.of_valid.result _ _
    (λ leaf h. record {
      built = h ∙ is;
      single = subst (λ (l : LeafModel). AllPairs Differ l.moves) (sym (h ∙ is)) (moves-single c.args.coefs.now c.args.k);
    })
    c.of_valid.ensures
