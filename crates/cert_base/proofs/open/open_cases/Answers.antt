use Rattle.std.proofs.Common.{◌≡◌, List, sym, subst, ap, ◌∙◌}
use Rattle.std.proofs.lemmas.Result.{IfOk-weaker}
use Rattle.pres_ast.specs.TreeOf.{tree_of}
use Rattle.cert_base.specs.declared.fact.Fact.{Fact}
use Rattle.cert_base.specs.FactsAndCases.{open_tree, cases_of_open}
use Rattle.cert_base.specs.Ends.{CoverValue, AreCasesBy}
use Rattle.cert_base.proofs.Openings.{open_cases-cover}
use Rattle.cert_base.proofs.open.open_cases.Goals as goal

pub returns : goal.returns
returns c =
    let pred = c.args.pred.now in
    let value = c.args.value in
    IfOk-weaker c.tree_cases.result
    (λ cases. cases ≡ open_tree c.vars.result (tree_of c.tree.result.now) value)
    (λ cases. AreCasesBy (CoverValue pred value) (cases_of_open pred value) cases)
    (λ cases e.
    let same : cases ≡ cases_of_open pred value = e ∙ ap (λ n. open_tree n (tree_of c.tree.result.now) value) c.vars.ensures.value ∙ ap (λ t. open_tree pred.variables t value) c.tree.ensures.value in
    record {
      cases = same;
      cover = subst (λ (cases : List (List Fact)). CoverValue pred value cases) (sym same) (open_cases-cover pred value c.vars.ensures.limits.atoms);
    })
    c.tree_cases.ensures
