-- When a fault may be returned.
use Rattle.std.specs.Prelude.{◌≡◌, ℕ, ◌<◌, ◌≤◌, ◌⊎◌, List, take, Option, Result, OnErr}
use Rattle.std.specs.Io.KnownBytes.{Appends}
use Rattle.pop_io.specs.declared.trouble.TheConstants.{LAST_COUNT}

-- the count is greater than before, or the greatest of its type
abbrev pub HasRisen : ℕ → ℕ → Type 0
HasRisen before now = (before < now) ⊎ (now ≡ LAST_COUNT)

-- a count of faults never falls, and a refusal comes only when it has risen
pub record HasCause {T E : Type 0} (before now : ℕ) (result : Result T E) : Type 0 where
  pub later : before ≤ now
  pub failed : OnErr result (HasRisen before now)

-- what is held grew by a prefix of the bytes
abbrev pub AppendsPrefix : Option (List ℕ) → Option (List ℕ) → List ℕ → Type 0
AppendsPrefix old new bytes = (n : ℕ) × Appends old new (take n bytes)
