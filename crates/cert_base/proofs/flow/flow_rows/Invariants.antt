use Rattle.std.proofs.Common.{◌≡◌}
use Rattle.cert_base.specs.Parts.{flow_rows_after}
use Rattle.cert_base.proofs.flow.flow_rows.Given as goal

abbrev pub invariant-loop-t : goal.invariant-loop-t
invariant-loop-t l = l.rows.items ≡ flow_rows_after l.leaf l.t
