-- Hushed: a leaf in which some moves are kept and all others are silent.
use Rattle.std.specs.Prelude.{ℕ, ◌+◌, ◌==◌, Bool, if◌then◌else◌, List, [], ◌∷◌}
use Rattle.std.specs.List.{list_any}
use Rattle.pop_leaf.specs.declared.leaf.Move.{Move}
use Rattle.pop_leaf.specs.LeafModel.{LeafModel}

-- whether the numbers of the kept moves have this one
abbrev pub is_kept : List ℕ → ℕ → Bool
is_kept kept n = list_any (λ m. m == n) kept

-- p,q -> p,q in the place of p,q -> r,s
abbrev pub hush : Move → Move
hush t = record { p = t.p; q = t.q; r = t.p; s = t.q }

abbrev pub hush_unless : Bool → Move → Move
hush_unless keep t = if keep then t else hush t

-- the moves from number n on: those that are kept as they are, and the others silent
abbrev pub hushed_moves : List ℕ → ℕ → List Move → List Move
hushed_moves kept n [] = []
hushed_moves kept n (t ∷ moves) = hush_unless (is_kept kept n) t ∷ hushed_moves kept (n + 1) moves

-- the leaf with all moves but the kept ones made silent; moves, states, inputs, outputs and helpers have their places
abbrev pub hushed : LeafModel → List ℕ → LeafModel
hushed leaf kept =
    record {
      states = leaf.states;
      moves = hushed_moves kept 0 leaf.moves;
      inputs = leaf.inputs;
      outputs = leaf.outputs;
      helpers = leaf.helpers;
    }
