-- Trails: what adding facts to a trail says of the facts before and after it.
use Rattle.std.specs.Prelude.{◌≡◌, [], ◌∷◌, ◌++◌, List, Result, OnOk, OnErr, IfErr}
use Rattle.pop_io.specs.declared.fault.NoMemory.{NoMemory}
use Rattle.cert_base.specs.declared.fact.Fact.{Fact}

-- the fact follows the others, or it is handed back
pub record AddsFact (fact : Fact) (before after : List Fact) (result : Result (Unit {0}) (Fact × NoMemory))
    : Type 0 where
  pub added : OnOk result (after ≡ before ++ fact ∷ [])
  pub refused : IfErr result (λ refusal. refusal.0 ≡ fact)
  pub unchanged : OnErr result (after ≡ before)

-- the facts follow the others, or the others are unchanged
pub record AppendsFacts (facts before after : List Fact) (result : Result (Unit {0}) NoMemory) : Type 0 where
  pub appended : OnOk result (after ≡ before ++ facts)
  pub unchanged : OnErr result (after ≡ before)
