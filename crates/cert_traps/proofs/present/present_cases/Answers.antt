use Rattle.std.proofs.Common.{◌≡◌, List, sym, subst, arith}
use Rattle.std.proofs.lemmas.Grind.{common_steps}
use Rattle.cert_base.specs.declared.fact.Fact.{Fact}
use Rattle.cert_base.specs.FactsAndCases.{cases_of_present}
use Rattle.cert_base.specs.Ends.{CoverDead}
use Rattle.cert_traps.proofs.Covers.{present-cover}
use Rattle.cert_traps.proofs.present.present_cases.Goals as goal

pub returns : goal.returns
returns c =
    let leaf = c.args.leaf.now in
    let is : c.from_vec.result ≡ cases_of_present leaf c.args.state = grind (arith, common_steps) in
    record {
      cases = is;
      cover = subst (λ (cases : List (List Fact)). CoverDead leaf cases) (sym is) (present-cover leaf c.args.state c.requires);
    }
