use Rattle.std.proofs.Common.{◌≡◌, ◌∙◌, List, sym, subst, ap}
use Rattle.cert_base.specs.declared.fact.Fact.{Fact}
use Rattle.cert_base.specs.FactsAndCases.{cases_of_siphon}
use Rattle.cert_base.specs.Ends.{CoverEach}
use Rattle.cert_traps.proofs.Covers.{siphon-cover}
use Rattle.cert_traps.proofs.siphon.siphon_cases.Goals as goal

pub returns : goal.returns
returns c =
    let leaf = c.args.leaf.now in
    let is : c.in_ok-cases.cases ≡ cases_of_siphon leaf c.args.set.now = c.in_ok-cases.ensures ∙ ap (cases_of_siphon leaf) c.in_ok-set.ensures in
    record {
      cases = is;
      cover = subst (λ (cases : List (List Fact)). CoverEach leaf cases) (sym is) (siphon-cover leaf c.args.set.now);
    }
