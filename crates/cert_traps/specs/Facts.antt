-- Facts that are added only if a flag is set.
use Rattle.std.specs.Prelude.{ℕ, Bool, if◌then◌else◌, List, [], ◌∷◌, pos}
use Rattle.pop_leaf.specs.declared.leaf.Move.{Move}
use Rattle.pop_leaf.specs.LeafModel.{LeafModel}
use Rattle.cert_base.specs.declared.fact.Fact.{Fact}
use Rattle.cert_base.specs.declared.fact.Fact.TheVariants.{Eq}
use Rattle.cert_base.specs.Rows.{single_row}
use Rattle.cert_base.specs.FactsAndCases.{alone_fact, is_possible}

-- the variable is 0
abbrev pub zero_if : ℕ → Bool → List Fact
zero_if variable flag = if flag then (Eq (single_row variable (pos 1) (pos 0)) ∷ []) else []

-- the state occurs once
abbrev pub alone_if : LeafModel → ℕ → Bool → List Fact
alone_if leaf q flag = if flag then (alone_fact leaf q ∷ []) else []

-- the fact itself
abbrev pub fact_if : Fact → Bool → List Fact
fact_if fact flag = if flag then (fact ∷ []) else []

-- the case of the move
abbrev pub case_if : LeafModel → Move → Bool → List (List Fact)
case_if leaf t flag = if flag then (is_possible leaf t ∷ []) else []
