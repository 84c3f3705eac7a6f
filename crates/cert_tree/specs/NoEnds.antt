-- NoEnds: facts that no end meets.
use Rattle.std.specs.Prelude.{List}
use Rattle.pop_leaf.specs.LeafModel.{LeafModel}
use Rattle.cert_base.specs.declared.fact.Fact.{Fact}
use Rattle.cert_base.specs.Valuation.{Valuation}
use Rattle.cert_base.specs.Ends.{IsEndFor, MeetsAll}

-- no end meets all the facts
abbrev pub NoneMeets : (leaf dead : LeafModel) → List Fact → Type 0
NoneMeets leaf dead facts = (count : Valuation) → IsEndFor leaf dead count → MeetsAll count facts → ⊥
