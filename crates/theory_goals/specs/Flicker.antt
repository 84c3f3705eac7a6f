-- Flicker: a net that never falls silent, and is right all the same. Two agents who look alike change their look, and
-- each look says yes.
use Rattle.std.specs.Prelude.{[], ◌∷◌, true, pos}
use Rattle.pres_ast.specs.PredTree.{PredTree, LessThan}
use Rattle.pop_leaf.specs.declared.item.Item.TheVariants.{Leaf}
use Rattle.pop_net.specs.ExampleNets.{move}
use Rattle.pop_leaf.specs.LeafModel.{LeafModel}
use Rattle.pop_leaf.specs.NetModel.{NetModel}
use Rattle.pop_leaf.specs.Step.{Step}
use Rattle.theory_goals.specs.StablyRight.{IsStablyRight}

-- the states p and q
abbrev pub two_looks : LeafModel
two_looks =
    record {
      states = (112 ∷ []) ∷ (113 ∷ []) ∷ [];
      moves = move 0 0 1 1 ∷ move 1 1 0 0 ∷ [];
      inputs = 0 ∷ [];
      outputs = true ∷ true ∷ [];
      helpers = [];
    }

-- over the variable x
abbrev pub flicker : NetModel
flicker = record { variables = (120 ∷ []) ∷ []; leaves = two_looks ∷ []; combine = Leaf 0 ∷ [] }

-- 0 < 1
abbrev pub always : PredTree
always = LessThan [] (pos 1)

-- its agents may change for ever, and it is stably right
pub record FlickerIsRight : Type 0 where
  pub right : IsStablyRight flicker always 0
  -- two agents change
  pub there : Step flicker ((0 ∷ []) ∷ (0 ∷ []) ∷ []) ((1 ∷ []) ∷ (1 ∷ []) ∷ [])
  -- and back
  pub back : Step flicker ((1 ∷ []) ∷ (1 ∷ []) ∷ []) ((0 ∷ []) ∷ (0 ∷ []) ∷ [])
