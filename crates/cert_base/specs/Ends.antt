-- Ends: the executions that a proof speaks of, and what it says of them.
use Rattle.std.specs.Prelude.{◌≡◌, ◌≢◌, ℕ, Bool, false, List, Some, All, Contains, length, slice_get, slice_index_or}
use Rattle.pres_ast.specs.PredTree.{PredTree}
use Rattle.pres_ast.specs.PredModel.{PredModel}
use Rattle.pres_ast.specs.PredicateValue.{predicate_value}
use Rattle.pop_leaf.specs.LeafModel.{LeafModel}
use Rattle.pop_leaf.specs.InputCrowd.{leaf_input_crowd, IsInput}
use Rattle.pop_leaf.specs.Step.{LeafStep}
use Rattle.pop_leaf.specs.Reachable.{Leads, Reachable}
use Rattle.pop_leaf.specs.Terminal.{IsTerminal}
use Rattle.cert_base.specs.declared.fact.Fact.{Fact}
use Rattle.cert_base.specs.declared.fact.Fact.TheVariants.{Holds}
use Rattle.cert_base.specs.Valuation.{Valuation, MeetsFact, IsOfExecution}

-- the counts are those of an execution that starts at an input and ends in a crowd in which `dead` has no step
pub record IsEndFor (leaf dead : LeafModel) (count : Valuation) : Type 0 where
  pub counts : List ℕ
  pub path : List (List ℕ)
  pub end : List ℕ
  pub way : Leads (LeafStep leaf) (leaf_input_crowd leaf counts) path end
  pub input : IsInput (length leaf.inputs) (length leaf.helpers) counts
  pub terminal : IsTerminal (LeafStep dead) end
  pub execution : IsOfExecution leaf count counts path end way

-- the same for a terminal crowd
abbrev pub IsEnd : LeafModel → Valuation → Type 0
IsEnd leaf = IsEndFor leaf leaf

-- both leaves have the same numbers of inputs and of states, so that these have the same variables
pub record HaveSamePlaces (leaf dead : LeafModel) : Type 0 where
  pub inputs : length dead.inputs ≡ length leaf.inputs
  pub states : length dead.states ≡ length leaf.states

abbrev pub MeetsAll : Valuation → List Fact → Type 0
MeetsAll count facts = All (MeetsFact count) facts

-- the counts meet all facts of one of the cases
abbrev pub MeetsOne : Valuation → List (List Fact) → Type 0
MeetsOne count cases = (facts : List Fact) × Contains cases facts × MeetsAll count facts

-- every end meets all facts of one of the cases
abbrev pub CoverFor : (leaf dead : LeafModel) → List (List Fact) → Type 0
CoverFor leaf dead cases = (count : Valuation) → IsEndFor leaf dead count → MeetsOne count cases

-- whatever is dead at the end
abbrev pub CoverEach : LeafModel → List (List Fact) → Type 0
CoverEach leaf cases = (dead : LeafModel) → CoverFor leaf dead cases

-- whatever leaf it is the end of
abbrev pub CoverDead : LeafModel → List (List Fact) → Type 0
CoverDead dead cases = (leaf : LeafModel) → HaveSamePlaces leaf dead → CoverFor leaf dead cases

-- no counts meet all the facts
abbrev pub AreRefuted : List Fact → Type 0
AreRefuted facts = (count : Valuation) → MeetsAll count facts → ⊥

-- from each input at which the predicate has this value, every agent of each reachable terminal crowd outputs the value
abbrev pub EndsRight : LeafModel → PredTree → Bool → Type 0
EndsRight leaf tree value =
    (counts end : List ℕ) → IsInput (length leaf.inputs) (length leaf.helpers) counts
    → predicate_value tree counts ≡ value
    → Reachable (LeafStep leaf) (leaf_input_crowd leaf counts) end → IsTerminal (LeafStep leaf) end
    → All (λ q. slice_index_or leaf.outputs q false ≡ value) end

-- an execution from an input at which the predicate has the value to a terminal crowd where an agent outputs another
-- value
pub record IsWrongEnd (leaf : LeafModel) (tree : PredTree) (value : Bool) (count : Valuation) : Type 0 where
  pub reached : IsEnd leaf count
  pub has_value : predicate_value tree reached.counts ≡ value
  pub agent : ℕ
  pub state : ℕ
  pub there : slice_get reached.end agent ≡ Some state
  pub wrong : slice_index_or leaf.outputs state false ≢ value

-- every wrong end meets all the facts
abbrev pub HoldAtWrongEnds : LeafModel → PredTree → Bool → List Fact → Type 0
HoldAtWrongEnds leaf tree value facts = (count : Valuation) → IsWrongEnd leaf tree value count → MeetsAll count facts

-- all counts at which the predicate has the value meet all facts of one of the cases
abbrev pub CoverValue : PredModel → Bool → List (List Fact) → Type 0
CoverValue p value cases = (count : Valuation) → MeetsFact count (Holds p value) → MeetsOne count cases

-- all counts meet all facts of one of the cases
abbrev pub CoverAll : List (List Fact) → Type 0
CoverAll cases = (count : Valuation) → MeetsOne count cases

-- the cases are the defined ones, and they cover what they are for
pub record AreCasesBy (Covers : List (List Fact) → Type 0) (defined own : List (List Fact)) : Type 0 where
  pub cases : own ≡ defined
  pub cover : Covers own
