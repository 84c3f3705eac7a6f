use Rattle.std.proofs.Common.{◌≡◌, ◌++◌, take}
use Rattle.std.specs.Prelude.{filter}
use Rattle.cert_base.specs.FactsAndCases.{is_about_inputs}
use Rattle.cert_traps.proofs.inputs.keep_about_inputs.Given as goal

abbrev pub invariant-loop-fact : goal.invariant-loop-fact
invariant-loop-fact l =
    l.kept.items ≡ l.fn.kept.items ++ filter (is_about_inputs l.leaf) (take l.fact-index l.facts)
