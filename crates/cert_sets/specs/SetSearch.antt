-- SetSearch: what the searches of a set's faults find.
use Rattle.std.specs.Prelude.{ℕ, Bool, List, Option, Some, None, All}
use Rattle.pop_leaf.specs.LeafModel.{LeafModel}
use Rattle.cert_sets.specs.declared.fault.SetFault.{SetFault}
use Rattle.cert_sets.specs.declared.fault.SetFault.TheVariants.{Wakes}
use Rattle.theory_sets.specs.Stays.{IsGuarded}
use Rattle.cert_sets.specs.SetFaults.{HasOutput, IsFirstOther, IsLeft}

-- the first state of the set that doesn't have the value as its output, if there is one
abbrev pub FindsOther : LeafModel → Bool → List ℕ → Option ℕ → Type 0
FindsOther leaf value set None = All (HasOutput leaf value) set
FindsOther leaf value set (Some q) = IsFirstOther leaf value set q

-- why the set with this number isn't guarded, if it isn't
abbrev pub FindsLeft : LeafModel → List ℕ → ℕ → List ℕ → Option SetFault → Type 0
FindsLeft leaf moves number set None = IsGuarded leaf moves set
FindsLeft leaf moves number set (Some fault) = IsLeft leaf moves number set fault

abbrev pub fault_of_woken : ℕ → Option (ℕ × ℕ) → Option SetFault
fault_of_woken number None = None
fault_of_woken number (Some found) = Some (Wakes number found.0 found.1)
