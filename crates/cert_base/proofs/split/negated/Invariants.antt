use Rattle.std.proofs.Common.{◌≡◌, map, take}
use Rattle.std.specs.Prelude.{neg_ℤ}
use Rattle.cert_base.specs.declared.fact.Term.{Term}
use Rattle.cert_base.proofs.split.negated.Given as goal

abbrev pub invariant-loop-term : goal.invariant-loop-term
invariant-loop-term l = l.terms.items ≡ map (λ (t : Term). record { at = t.at; by = neg_ℤ t.by }) (take l.term-index l.row.terms)
