-- SetFaults: the first set that isn't good, and why.
use Rattle.std.specs.Prelude.{◌≡◌, ℕ, ◌<◌, ◌≤◌, Bool, List, length, Some, slice_get, All, Result, OnOk}
use Rattle.pop_io.specs.declared.failure.Failure.{Failure}
use Rattle.pop_io.specs.Failures.{IfFault, OnlyMemory}
use Rattle.pop_leaf.specs.LeafModel.{LeafModel}
use Rattle.cert_base.specs.declared.limits.TheConstants.{SET_LIMIT}
use Rattle.cert_layers.specs.LayerFaults.{Each, IsFirstFailing}
use Rattle.cert_sets.specs.declared.fault.SetFault.{SetFault}
use Rattle.cert_sets.specs.declared.fault.SetFault.TheVariants.{Output, Leaves, Wakes}
use Rattle.theory_sets.specs.Stays.{escapes, SleepsFor, SleepIn, IsGuardedAt, Stays}

-- there is such a state, and its output is the value
abbrev pub HasOutput : LeafModel → Bool → ℕ → Type 0
HasOutput leaf value q = slice_get leaf.outputs q ≡ Some value

-- all states of the set have the value as their output, and the set stays
pub record IsGoodSet (leaf : LeafModel) (moves : List ℕ) (value : Bool) (set : List ℕ) : Type 0 where
  pub right : All (HasOutput leaf value) set
  pub stays : Stays leaf moves set

abbrev pub AreGoodSets : LeafModel → List ℕ → Bool → List (List ℕ) → Type 0
AreGoodSets leaf moves value sets = All (IsGoodSet leaf moves value) sets

-- the first state of the set that doesn't have the value as its output
pub record IsFirstOther (leaf : LeafModel) (value : Bool) (set : List ℕ) (q : ℕ) : Type 0 where
  pub place : ℕ
  pub there : slice_get set place ≡ Some q
  pub other : ¬ HasOutput leaf value q
  pub before : (k p : ℕ) → k < place → slice_get set k ≡ Some p → HasOutput leaf value p

-- neither guarded nor settled: the least move that leads out and isn't one of these; or, if there is none, the least
-- move that wakes one that leads out, and the least that it wakes
abbrev pub IsLeft : LeafModel → List ℕ → ℕ → List ℕ → SetFault → Type 0
IsLeft leaf moves number set (Output j q) = ⊥
IsLeft leaf moves number set (Leaves j n) = (j ≡ number) × IsFirstFailing (IsGuardedAt leaf moves set) n
IsLeft leaf moves number set (Wakes j n m) =
    (j ≡ number) × Each (IsGuardedAt leaf moves set)
    × IsFirstFailing (λ k. Each (SleepsFor leaf set (escapes leaf set) k)) n
    × IsFirstFailing (SleepsFor leaf set (escapes leaf set) n) m

-- why the set with this number isn't good
abbrev pub IsBadBy : LeafModel → List ℕ → Bool → ℕ → List ℕ → SetFault → Type 0
IsBadBy leaf moves value number set (Output j q) = (j ≡ number) × IsFirstOther leaf value set q
IsBadBy leaf moves value number set fault =
    All (HasOutput leaf value) set × (¬ SleepIn leaf set moves) × IsLeft leaf moves number set fault

-- the first set that isn't good
pub record AreBadBy (leaf : LeafModel) (moves : List ℕ) (value : Bool) (sets : List (List ℕ)) (fault : SetFault)
    : Type 0 where
  pub number : ℕ
  pub set : List ℕ
  pub set_is : slice_get sets number ≡ Some set
  pub before : (k : ℕ) (good : List ℕ) → k < number → slice_get sets k ≡ Some good → IsGoodSet leaf moves value good
  pub why : IsBadBy leaf moves value number set fault

-- sets within the limits of a goal
abbrev pub AreSetsWithin : List (List ℕ) → Type 0
AreSetsWithin sets = length sets ≤ SET_LIMIT

-- what `checked_sets` says: each set has the value as its output and stays; or this is the first that doesn't, and why
pub record ChecksSets {T : Type 0} (leaf : LeafModel) (moves : List ℕ) (value : Bool) (sets : List (List ℕ))
    (result : Result T (Failure SetFault)) : Type 0 where
  pub good : OnOk result (AreGoodSets leaf moves value sets)
  pub fault : IfFault result (AreBadBy leaf moves value sets)
  pub accepts : AreGoodSets leaf moves value sets → OnlyMemory result
