-- A sum of facts, one part of which is kept.
use Rattle.std.specs.Prelude.{◌≡◌, ℕ, ◌<◌, List, All, Bool, true, false, nat_lt}
use Rattle.cert_base.specs.declared.fact.Term.{Term}
use Rattle.cert_base.specs.declared.fact.Fact.{Fact}
use Rattle.cert_base.specs.ClosingTests.{all_named, may_add, sum_of}
use Rattle.cert_linear.specs.declared.sum.TheConstants.{SUM_LIMIT}
use Rattle.cert_linear.specs.declared.tally.Tally.{Tally}
use Rattle.cert_linear.specs.Sums.{IsTidy, IsSum, IsSumWithin, HasAllPositive}

-- whether a term names a fact below a number
abbrev pub leads : ℕ → Term → Bool
leads stable t = nat_lt t.at stable

-- the lead is the sum of the kept terms, which name facts below a number and may have their multipliers; its positive
-- variables are listed
pub record IsKept (stable : ℕ) (facts : List Fact) (tally : Tally) : Type 0 where
  pub named : All (λ t. t.at < stable) tally.kept.items
  pub may : all_named may_add facts tally.kept.items ≡ true
  pub sum : IsSum (sum_of facts tally.kept.items) tally.lead
  pub size : IsSumWithin SUM_LIMIT tally.lead
  pub positive : HasAllPositive tally.lead tally.positive.items
  pub lead : IsTidy tally.lead
  pub rest : IsTidy tally.rest

-- whether each term may have its multiplier, and if so, they are kept
abbrev pub Keeps : List Fact → List Term → Tally → Bool → Type 0
Keeps facts terms tally false = all_named may_add facts terms ≡ false
Keeps facts terms tally true = tally.kept.items ≡ terms

-- the same, and the lead is their sum, whose positive variables are listed
abbrev pub Makes : List Fact → List Term → Tally → Bool → Type 0
Makes facts terms tally false = all_named may_add facts terms ≡ false
Makes facts terms tally true =
    (tally.kept.items ≡ terms)
    × (all_named may_add facts terms ≡ true)
    × IsSum (sum_of facts terms) tally.lead
    × IsSumWithin SUM_LIMIT tally.lead
    × HasAllPositive tally.lead tally.positive.items
