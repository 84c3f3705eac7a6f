-- What is required of facts, and of the terms that name them.
use Rattle.std.specs.Prelude.{◌≡◌, ℕ, ◌<◌, ◌≤◌, Bool, List, nat_abs, length, All, AllPairs, IsTrue}
use Rattle.cert_base.specs.declared.limits.TheConstants.{SIZE_LIMIT, TERM_LIMIT}
use Rattle.cert_base.specs.declared.fact.Term.{Term}
use Rattle.cert_base.specs.declared.fact.Fact.{Fact}
use Rattle.cert_base.specs.ClosingTests.{row_of}
use Rattle.cert_base.specs.Ends.{AreRefuted}

-- the variables are strictly ascending
abbrev pub AreAscending : List Term → Type 0
AreAscending terms = AllPairs (λ t u. t.at < u.at) terms

-- the variables of the fact's row are strictly ascending
abbrev pub IsOrdered : Fact → Type 0
IsOrdered fact = AreAscending (row_of fact).terms

-- multipliers within the limits of a node
pub record AreMultipliers (terms : List Term) : Type 0 where
  pub few : length terms ≤ TERM_LIMIT
  pub small : All (λ t. nat_abs t.by ≤ SIZE_LIMIT) terms

-- each term names one of n facts by its number
abbrev pub AreNamed : ℕ → List Term → Type 0
AreNamed n terms = All (λ t. t.at < n) terms

-- each term names one of the facts, with a multiplier within the limits, and the facts' variables ascend
pub record IsCombination (facts : List Fact) (terms : List Term) : Type 0 where
  pub named : AreNamed (length facts) terms
  pub multipliers : AreMultipliers terms
  pub ordered : All IsOrdered facts

-- the answer of a closing test; if it is true, no counts meet all the facts
pub record TellsRefuted (facts : List Fact) (test answer : Bool) : Type 0 where
  pub closes : answer ≡ test
  pub refutes : IsTrue answer → AreRefuted facts
