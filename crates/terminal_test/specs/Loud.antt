-- Loud: the pairs of states that react.
use Rattle.std.specs.Prelude.{ℕ, ◌<◌, if◌then◌else◌, List, [], ◌∷◌, All}
use Rattle.pop_leaf.specs.declared.leaf.Move.{Move}
use Rattle.pop_leaf.specs.LeafModel.{silent_move}

-- the two states of each non-silent move
abbrev pub pairs_of_moves : List Move → List (ℕ × ℕ)
pairs_of_moves [] = []
pairs_of_moves (t ∷ moves) = if silent_move t then pairs_of_moves moves else (t.p, t.q) ∷ pairs_of_moves moves

-- states with numbers below n
abbrev pub ArePairsBelow : ℕ → List (ℕ × ℕ) → Type 0
ArePairsBelow n pairs = All (λ (z : ℕ × ℕ). (z.0 < n) × (z.1 < n)) pairs
