-- DefinedLeaf: what a call that builds a leaf says of it.
use Rattle.std.specs.Prelude.{◌≡◌, ◌≤◌, List, ℤ, length, AllPairs}
use Rattle.pop_io.specs.declared.names.TheConstants.{VARIABLE_LIMIT}
use Rattle.pop_leaf.specs.LeafModel.{LeafModel}
use Rattle.pop_leaf.specs.Reaction.{Differ}

-- there is at least one coefficient, and no more than a net may have variables
pub record HasInputs (coefs : List ℤ) : Type 0 where
  pub some : 1 ≤ length coefs
  pub few : length coefs ≤ VARIABLE_LIMIT

-- the leaf is the defined one, and no two of its moves take the same states
pub record IsDefined (defined leaf : LeafModel) : Type 0 where
  pub built : leaf ≡ defined
  pub single : AllPairs Differ leaf.moves
