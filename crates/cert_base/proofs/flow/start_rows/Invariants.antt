use Rattle.std.proofs.Common.{◌≡◌, map}
use Rattle.std.specs.List.{range_with_len}
use Rattle.cert_base.specs.Parts.{flow_terms}
use Rattle.cert_base.proofs.flow.start_rows.Given as goal

abbrev pub invariant-loop-q : goal.invariant-loop-q
invariant-loop-q l = l.rows.items ≡ map (flow_terms l.leaf 0) (range_with_len 0 l.q)
