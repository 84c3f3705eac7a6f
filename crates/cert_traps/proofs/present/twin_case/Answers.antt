use Rattle.std.proofs.Common.{◌≡◌, ◌<◌, ◌∙◌, List, [], ◌∷◌, length, sym, subst, arith}
use Rattle.std.specs.Prelude.{Option, Some, None, IfSome, if◌then◌else◌}
use Rattle.std.proofs.lemmas.Result.{IfOk-weaker}
use Rattle.cert_base.specs.declared.fact.Fact.{Fact}
use Rattle.cert_base.specs.FactsAndCases.{not_twice, case_of_twin}
use Rattle.cert_base.specs.Ends.{CoverDead}
use Rattle.cert_traps.proofs.Covers.{twin-cover}
use Rattle.cert_traps.proofs.Lists.{read_is, twin_as}
use Rattle.cert_traps.proofs.present.twin_case.Goals as goal

pub returns-clause-case : goal.returns-clause-case
returns-clause-case c =
    let within : c.args.state < length c.in_ok-partners.partners.items = omega (arith, c.in_ok-partners.ensures.long, c.requires) in
    IfOk-weaker c.twin.result
    (λ case. case ≡ (if c.index.result.now then Some (not_twice c.args.leaf.now c.args.state ∷ []) else None))
    (λ case. case ≡ case_of_twin c.args.leaf.now c.args.state)
    (λ case e. e ∙ twin_as c.args.leaf.now c.args.state c.index.result.now (read_is c.in_ok-partners.partners.items c.from.result c.args.state c.index.result.now c.index.ensures c.from.ensures within ∙ c.in_ok-partners.ensures.each c.args.state c.requires))
    c.twin.ensures

pub returns-clause-cover : goal.returns-clause-cover
returns-clause-cover c =
    IfOk-weaker c.twin.result
    (λ case. case ≡ case_of_twin c.args.leaf.now c.args.state)
    (λ case. IfSome case (λ facts. CoverDead c.args.leaf.now (facts ∷ [])))
    (λ case e. subst (λ (case : Option (List Fact)). IfSome case (λ facts. CoverDead c.args.leaf.now (facts ∷ []))) (sym e) (twin-cover c.args.leaf.now c.args.state c.requires))
    (returns-clause-case c)
