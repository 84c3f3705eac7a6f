-- Times: when a fair execution is stable.
use Rattle.std.specs.Prelude.{◌≡◌, ◌⊎◌, ℕ, Bool, true, false, List, length}
use Rattle.pres_ast.specs.PredTree.{PredTree}
use Rattle.pres_ast.specs.PredicateValue.{predicate_value}
use Rattle.pop_leaf.specs.NetModel.{NetModel, CrowdModel, number_of_helpers}
use Rattle.pop_leaf.specs.InputCrowd.{IsInput}
use Rattle.pop_leaf.specs.Step.{Step}
use Rattle.theory_fair.specs.Executions.{IsFair}
use Rattle.theory_fair.specs.StablyComputes.{IsExecutionFrom, IsStableFrom, IsSameMap, IsSameMultiset, MultisetStep}
use Rattle.theory_fair.specs.Laws.{AlwaysEndsRight}

-- excluded middle for tests: one succeeds at some number, or fails at every number
abbrev pub ExcludedMiddle : Type 0
ExcludedMiddle = (test : ℕ → Bool) → ((i : ℕ) × (test i ≡ true)) ⊎ ((i : ℕ) → test i ≡ false)

-- a test that does not fail at every number succeeds at one: it follows from excluded middle, and the logic has neither
abbrev pub MarkovsPrinciple : Type 0
MarkovsPrinciple = (test : ℕ → Bool) → ¬ ((i : ℕ) → test i ≡ false) → (i : ℕ) × (test i ≡ true)

-- each fair execution by the steps S from an input has a time from which on it is stable
abbrev pub HasTimes : (Same S : CrowdModel → CrowdModel → Type 0) → NetModel → PredTree → Type 0
HasTimes Same S net tree =
    (counts : List ℕ) (e : ℕ → CrowdModel) → IsInput (length net.variables) (number_of_helpers net) counts
    → IsExecutionFrom Same S net counts e → IsFair Same S e
    → (i : ℕ) × IsStableFrom Same net (predicate_value tree counts) e i

-- who reasons by excluded middle has Markov's principle, and with it the times
abbrev pub MiddleGivesMarkov : Type 0
MiddleGivesMarkov = ExcludedMiddle → MarkovsPrinciple

abbrev pub TimesAreFound : Type 0
TimesAreFound =
    MarkovsPrinciple → (net : NetModel) (tree : PredTree) → AlwaysEndsRight (Step net) net tree
    → HasTimes IsSameMap (Step net) net tree × HasTimes IsSameMultiset (MultisetStep (Step net)) net tree
