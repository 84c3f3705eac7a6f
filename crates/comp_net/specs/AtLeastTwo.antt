-- At least two: `Computes` of one compiled net, with the moves written out. Two agents in `1` become one in `2` and one
-- in `0`, and an agent in `2` converts all others. In the end all answer whether there are two of x.
use Rattle.std.specs.Prelude.{◌≡◌, [], ◌∷◌, true, false, negsuc}
use Rattle.pres_ast.specs.PredTree.{PredTree, LessThan}
use Rattle.pop_leaf.specs.declared.item.Item.TheVariants.{Leaf}
use Rattle.pop_net.specs.ExampleNets.{move}
use Rattle.pop_leaf.specs.LeafModel.{LeafModel}
use Rattle.pop_leaf.specs.NetModel.{NetModel}
use Rattle.pop_checker.specs.Computes.{Computes}
use Rattle.comp_net.specs.declared.choice.LeafChoice.TheVariants.{Flocks}
use Rattle.comp_net.specs.BuiltNet.{net_with}

-- the states `0`, `1` and `2`
abbrev pub two_leaf : LeafModel
two_leaf =
    record {
      states = (48 ∷ []) ∷ (49 ∷ []) ∷ (50 ∷ []) ∷ [];
      moves = move 1 1 2 0 ∷ move 2 0 2 2 ∷ move 2 1 2 2 ∷ [];
      inputs = 1 ∷ [];
      outputs = false ∷ false ∷ true ∷ [];
      helpers = [];
    }

-- over the variable x
abbrev pub two_net : NetModel
two_net = record { variables = (120 ∷ []) ∷ []; leaves = two_leaf ∷ []; combine = Leaf 0 ∷ [] }

-- x >= 2, as -x < -1
abbrev pub at_least_two : PredTree
at_least_two = LessThan (negsuc 0 ∷ []) (negsuc 0)

pub record AtLeastTwoComputes : Type 0 where
  -- the net is what `compile_flocks` builds
  pub built : two_net ≡ net_with Flocks ((120 ∷ []) ∷ []) at_least_two
  -- from each crowd on the way from an input, two steps for each agent are enough
  pub computes : Computes two_net at_least_two 2
