use Rattle.std.proofs.Common.{◌≡◌, ◌++◌, map, take}
use Rattle.cert_base.specs.FactsAndCases.{outside_fact}
use Rattle.cert_base.specs.Parts.{input_list}
use Rattle.cert_base.proofs.outside.goal_facts.Given as goal

abbrev pub invariant-loop-set : goal.invariant-loop-set
invariant-loop-set l =
    l.facts.items ≡ input_list l.leaf l.pred l.value ++ map (outside_fact l.leaf) (take l.set-index l.sets)
