use Rattle.std.proofs.Common.{◌≡◌, ◌+◌, ◌++◌, drop, map}
use Rattle.std.specs.Prelude.{◌==◌}
use Rattle.cert_base.specs.Rows.{terms_from}
use Rattle.cert_base.specs.FactsAndCases.{indicator}
use Rattle.cert_base.proofs.flow.input_terms.Given as goal

abbrev pub invariant-loop-i : goal.invariant-loop-i
invariant-loop-i l =
    l.terms ++ terms_from (0 + l.i) (drop l.i (map (λ start. indicator (start == l.q)) l.leaf.inputs)) ≡ terms_from 0 (map (λ start. indicator (start == l.q)) l.leaf.inputs)
