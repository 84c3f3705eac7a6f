use Rattle.std.proofs.Common.{◌∙◌, ◌+◌, ap, sym, subst, map, rules, w64, SFits}
use Rattle.std.specs.Prelude.{AllPairs}
use Rattle.std.specs.List.{range_with_len}
use Rattle.std.proofs.lemmas.Int.{to_z-of_z}
use Rattle.std.proofs.lemmas.Result.{IfOk-weaker}
use Rattle.pop_leaf.specs.LeafModel.{LeafModel, IsLeaf}
use Rattle.pop_leaf.specs.Reaction.{Differ}
use Rattle.comp_counting.specs.FlockAtoms.{says_enough, enough_for}
use Rattle.comp_counting.specs.FullState.{flock_start, flock_output}
use Rattle.comp_flock.proofs.Formed.{leaf-as}
use Rattle.comp_flock.proofs.MoveLists.{moves-single}
use Rattle.comp_flock.proofs.leaf.count_leaf.Goals as goal

pub of_valid-requires : goal.of_valid-requires
of_valid-requires c =
    let fits : SFits w64 c.args.bound = search rules in
    let same = to_z-of_z w64 c.args.bound fits in
    let bound = c.args.bound in
    let coefs = c.args.coefs.now in
    let worths = c.args.worths.now in
    let ws = worths.list.now in
    let k = worths.k in
    let says = c.says_enough.ensures ∙ ap says_enough same in
    let is = leaf-as coefs (says_enough bound) (enough_for bound) worths.keeps worths.target ws k c.args.helpers.items c.in_ok-names.names c.from_vec-moves.result c.from_vec-inputs.result c.from_vec-outputs.result c.from_vec-helpers.result
    c.in_ok-names.ensures
    (c.from_vec-moves.ensures ∙ c.in_ok-moves.ensures)
    (c.from_vec-inputs.ensures ∙ c.in_ok-inputs.ensures ∙ ap (λ n. map (flock_start n k) coefs) c.requires.enough)
    (c.from_vec-outputs.ensures ∙ c.in_ok-outputs.ensures ∙ ap (λ s. map (flock_output s k) (range_with_len 0 (k + 2))) says)
    c.from_vec-helpers.ensures in
    subst IsLeaf (sym is) c.requires.covered.formed

pub returns : goal.returns
returns c =
    let fits : SFits w64 c.args.bound = search rules in
    let same = to_z-of_z w64 c.args.bound fits in
    let bound = c.args.bound in
    let coefs = c.args.coefs.now in
    let worths = c.args.worths.now in
    let ws = worths.list.now in
    let k = worths.k in
    let says = c.says_enough.ensures ∙ ap says_enough same in
    let is = leaf-as coefs (says_enough bound) (enough_for bound) worths.keeps worths.target ws k c.args.helpers.items c.in_ok-names.names c.from_vec-moves.result c.from_vec-inputs.result c.from_vec-outputs.result c.from_vec-helpers.result
    c.in_ok-names.ensures
    (c.from_vec-moves.ensures ∙ c.in_ok-moves.ensures)
    (c.from_vec-inputs.ensures ∙ c.in_ok-inputs.ensures ∙ ap (λ n. map (flock_start n k) coefs) c.requires.enough)
    (c.from_vec-outputs.ensures ∙ c.in_ok-outputs.ensures ∙ ap (λ s. map (flock_output s k) (range_with_len 0 (k + 2))) says)
    c.from_vec-helpers.ensures in
    IfOk-weaker c.of_valid.result _ _
    (λ leaf h. record {
      built = h ∙ is;
      single = subst (λ (l : LeafModel). AllPairs Differ l.moves) (sym (h ∙ is)) (moves-single worths.keeps ws worths.target k);
    })
    c.of_valid.ensures
