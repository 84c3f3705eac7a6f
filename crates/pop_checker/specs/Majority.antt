-- Majority: `Computes` of one net and one predicate, with the moves written out. Agents of x start as A, and those of y
-- as B; a and b are what is left of them once they have met. In the end all answer whether there are more of x.
use Rattle.std.specs.Prelude.{[], ◌∷◌, true, false, pos, negsuc}
use Rattle.pres_ast.specs.PredTree.{PredTree, LessThan}
use Rattle.pop_leaf.specs.declared.item.Item.TheVariants.{Leaf}
use Rattle.pop_net.specs.ExampleNets.{move}
use Rattle.pop_leaf.specs.LeafModel.{LeafModel}
use Rattle.pop_leaf.specs.NetModel.{NetModel}
use Rattle.pop_checker.specs.Computes.{Computes}

-- the states A, B, a and b, of which A and a answer yes
abbrev pub four_states : LeafModel
four_states =
    record {
      states = (65 ∷ []) ∷ (66 ∷ []) ∷ (97 ∷ []) ∷ (98 ∷ []) ∷ [];
      moves = move 0 1 2 3 ∷ move 0 3 0 2 ∷ move 1 2 1 3 ∷ move 3 2 3 3 ∷ [];
      inputs = 0 ∷ 1 ∷ [];
      outputs = true ∷ false ∷ true ∷ false ∷ [];
      helpers = [];
    }

-- over the variables x and y
abbrev pub majority_net : NetModel
majority_net =
    record { variables = (120 ∷ []) ∷ (121 ∷ []) ∷ []; leaves = four_states ∷ []; combine = Leaf 0 ∷ [] }

-- y - x < 0
abbrev pub more_of_x : PredTree
more_of_x = LessThan (negsuc 0 ∷ pos 1 ∷ []) (pos 0)

-- from each crowd on the way from an input, two steps for each agent are enough
abbrev pub MajorityComputes : Type 0
MajorityComputes = Computes majority_net more_of_x 2
