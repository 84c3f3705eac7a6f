use Rattle.std.proofs.Common.{◌≡◌, map, take}
use Rattle.serde_json.specs.View.{view}
use Rattle.cert_json.specs.Written.{term_data}
use Rattle.cert_json.proofs.write_node.terms_value.Given as goal

abbrev pub invariant-loop-term : goal.invariant-loop-term
invariant-loop-term l = map view l.list.items ≡ map term_data (take l.term-index l.terms)
