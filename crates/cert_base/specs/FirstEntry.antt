-- FirstEntry: what the node `First` says of every end.
use Rattle.std.specs.Prelude.{◌⊎◌, ℕ, List}
use Rattle.pop_leaf.specs.LeafModel.{LeafModel}
use Rattle.cert_base.specs.declared.fact.Fact.{Fact}
use Rattle.cert_base.specs.Valuation.{Valuation}
use Rattle.cert_base.specs.FactsAndCases.{cases_of_first, before_entry, cases_of_entry}
use Rattle.cert_base.specs.Closes.{still}
use Rattle.cert_base.specs.Ends.{IsEndFor, MeetsAll, MeetsOne}

-- an execution leads to a crowd before which nobody was in the set, and in which a move that enters it is possible
pub record IsEntered (leaf : LeafModel) (set : List ℕ) (facts : List Fact) : Type 0 where
  pub count : Valuation
  pub reached : IsEndFor leaf (still leaf) count
  pub before : MeetsAll count (before_entry leaf set facts)
  pub entry : MeetsOne count (cases_of_entry leaf set)

-- where the counts of an end meet the facts, they meet those of a case of the end, or the set was entered
abbrev pub CoverFirst : LeafModel → List ℕ → Type 0
CoverFirst leaf set =
    (dead : LeafModel) (facts : List Fact) (count : Valuation) → IsEndFor leaf dead count → MeetsAll count facts
    → MeetsOne count (cases_of_first leaf set) ⊎ IsEntered leaf set facts
