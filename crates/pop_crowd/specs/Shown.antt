-- A map from lists of states to numbers, seen as pairs.
use Rattle.std.specs.Prelude.{ℕ, List, map}
use Rattle.std.specs.Prelude.{Vec}
use Rattle.pop_leaf.specs.NetModel.{Tuple}

abbrev pub shown : {A : Type 0} → List (Vec ℕ A × ℕ) → List (Tuple × ℕ)
shown {A} entries = map (λ (e : Vec ℕ A × ℕ). (e.0.items, e.1)) entries
