use Rattle.std.proofs.Common.{List, ap, sym, subst, ◌∙◌, nat_abs, ◌≤◌}
use Rattle.std.specs.Prelude.{All, not, pos}
use Rattle.std.specs.Ordering.{int_eq}
use Rattle.std.proofs.lemmas.List.Elements.{All-filter}
use Rattle.std.proofs.lemmas.Result.{IfOk-weaker}
use Rattle.cert_base.specs.declared.fact.Fact.{Fact}
use Rattle.cert_base.specs.declared.fact.Row.{Row}
use Rattle.cert_base.specs.declared.fact.Term.{Term}
use Rattle.cert_base.specs.declared.limits.TheConstants.{SIZE_LIMIT}
use Rattle.cert_base.specs.FactsAndCases.{signs_of}
use Rattle.cert_base.specs.Ends.{CoverAll}
use Rattle.cert_base.proofs.Openings.{split_cases-cover}
use Rattle.cert_base.proofs.split.split_cases.Goals as goal

pub signs-requires-clause-coefs : goal.signs-requires-clause-coefs
signs-requires-clause-coefs c =
    subst (λ (row : Row). All (λ term. nat_abs term.by ≤ SIZE_LIMIT) row.terms) (sym c.in_ok-named.ensures)
    (All-filter (λ (t : Term). not (int_eq t.by (pos 0))) (λ (t : Term). nat_abs t.by ≤ SIZE_LIMIT) c.args.row.now.terms c.requires.coefs)

pub signs-requires-clause-constant : goal.signs-requires-clause-constant
signs-requires-clause-constant c = subst (λ (row : Row). nat_abs row.constant ≤ SIZE_LIMIT) (sym c.in_ok-named.ensures) c.requires.constant

pub returns : goal.returns
returns c =
    IfOk-weaker c.signs.result _ _
    (λ cases e.
    let is = e ∙ ap signs_of c.in_ok-named.ensures in
    record { cases = is; cover = subst (λ (cs : List (List Fact)). CoverAll cs) (sym is) (split_cases-cover c.args.row.now) })
    c.signs.ensures
