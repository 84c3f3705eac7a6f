-- The pair that the last line of a play or a run names.
use Rattle.std.specs.Prelude.{ℕ, Option, Some, None}
use Rattle.pop_leaf.specs.NetModel.{NetModel, CrowdModel}
use Rattle.pop_leaf.specs.Step.{Step}
use Rattle.pop_leaf.specs.Terminal.{IsTerminal}
use Rattle.terminal_test.specs.Pairs.{IsLeastPair}

-- no pair if the crowd is terminal, else the least pair that changes a tuple
abbrev pub IsLast : NetModel → CrowdModel → Option (ℕ × ℕ) → Type 0
IsLast net crowd None = IsTerminal (Step net) crowd
IsLast net crowd (Some (a, b)) = IsLeastPair net crowd a b
