use Rattle.std.proofs.Common.{◌≡◌, ◌+◌, ◌++◌, drop}
use Rattle.cert_base.specs.Rows.{terms_from}
use Rattle.cert_base.proofs.fact.Row.dense.Given as goal

abbrev pub invariant-loop-i : goal.invariant-loop-i
invariant-loop-i l = l.terms ++ terms_from (l.first + l.i) (drop l.i l.coefs) ≡ terms_from l.first l.coefs
