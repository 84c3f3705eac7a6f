-- OutputStable: crowds in which the outputs have come to rest (Angluin and others 2006), and how steps lead to them.
use Rattle.std.specs.Prelude.{ℕ, ◌*◌, Bool, List, length}
use Rattle.pres_ast.specs.PredTree.{PredTree}
use Rattle.pres_ast.specs.PredicateValue.{predicate_value}
use Rattle.pop_leaf.specs.NetModel.{NetModel, CrowdModel, number_of_helpers}
use Rattle.pop_leaf.specs.InputCrowd.{IsInput, input_crowd}
use Rattle.pop_leaf.specs.Step.{Step}
use Rattle.pop_leaf.specs.Reachable.{ReachedWithin, Reachable}
use Rattle.theory_fair.specs.StablyComputes.{Relation}
use Rattle.theory_fair.specs.OutputStable.{AllOutput}

-- from this crowd on every agent outputs the value, whatever happens
abbrev pub IsOutputStable : NetModel → Bool → CrowdModel → Type 0
IsOutputStable net value crowd = (later : CrowdModel) → Reachable (Step net) crowd later → AllOutput net value later

-- from every crowd on the way from an input, the steps S lead to one from which on every agent outputs the predicate's
-- value, and at most k of them for each agent
abbrev pub ComesToOutput : Relation → NetModel → PredTree → ℕ → Type 0
ComesToOutput S net tree k =
    (counts : List ℕ) (crowd : CrowdModel) → IsInput (length net.variables) (number_of_helpers net) counts
    → Reachable (Step net) (input_crowd net counts) crowd
    → (end : CrowdModel) × IsOutputStable net (predicate_value tree counts) end
    × ReachedWithin S (k * length crowd) crowd end
