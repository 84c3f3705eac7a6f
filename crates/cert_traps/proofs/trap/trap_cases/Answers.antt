use Rattle.std.proofs.Common.{◌≡◌, ◌∙◌, List, sym, subst, ap}
use Rattle.cert_base.specs.declared.fact.Fact.{Fact}
use Rattle.cert_base.specs.FactsAndCases.{cases_of_trap}
use Rattle.cert_base.specs.Ends.{CoverEach}
use Rattle.cert_traps.proofs.Covers.{trap-cover}
use Rattle.cert_traps.proofs.trap.trap_cases.Goals as goal

pub returns : goal.returns
returns c =
    let leaf = c.args.leaf.now in
    let is : c.in_ok-cases.cases ≡ cases_of_trap leaf c.args.set.now = c.in_ok-cases.ensures ∙ ap (cases_of_trap leaf) c.in_ok-set.ensures in
    record {
      cases = is;
      cover = subst (λ (cases : List (List Fact)). CoverEach leaf cases) (sym is) (trap-cover leaf c.args.set.now c.state_count-formed.ensures.formed);
    }
