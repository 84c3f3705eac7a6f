use Rattle.std.proofs.Common.{◌≡◌, ◌∙◌, subst, sym, length, rules, w64, SFits, to_z, of_z}
use Rattle.std.specs.Prelude.{ℤ, List}
use Rattle.std.proofs.lemmas.Int.{to_z-of_z}
use Rattle.pres_ast.specs.PredTree.{LessThan}
use Rattle.pres_ast.specs.PredModel.{IsPred}
use Rattle.comp_counting.proofs.Small.{offset_is_pred}
use Rattle.comp_counting.proofs.meaning.offset_pred.Goals as goal

pub new-requires : goal.new-requires
new-requires c =
    let coefs = c.args.coefs.now in
    let fits : SFits w64 c.args.bound = search rules in
    let row : c.from_vec.result ≡ coefs = c.from_vec.ensures ∙ c.in_ok-from_slice.ensures.items in
    let bound = to_z-of_z w64 c.args.bound fits in
    subst (λ (xs : List ℤ). IsPred (length coefs) (LessThan xs (to_z w64 (of_z w64 c.args.bound)))) (sym row)
    (subst (λ z. IsPred (length coefs) (LessThan coefs z)) (sym bound) (offset_is_pred coefs c.args.bound c.args.power c.requires))
