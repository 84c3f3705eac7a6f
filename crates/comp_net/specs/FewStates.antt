-- FewStates: in a net of `compile --succinct` the leaf of a comparison has few states.
use Rattle.std.specs.Prelude.{◌≡◌, ◌≤◌, ◌<◌, ℕ, ◌+◌, ◌*◌, ◌^◌, List, ℤ, nat_abs, length, All, Some, None, slice_get}
use Rattle.pop_leaf.specs.LeafModel.{LeafModel}
use Rattle.pres_ast.specs.PredTree.{PredTree, LessThan}
use Rattle.comp_net.specs.declared.choice.LeafChoice.TheVariants.{Succinct}
use Rattle.comp_net.specs.Atoms.{atoms}
use Rattle.comp_net.specs.BuiltNet.{net_with}
use Rattle.comp_net.specs.CompileFaults.{fault_with}

-- if the numbers of the atom have at most d binary digits, its leaf has at most some d for each variable, and 2 d
abbrev pub FewStatesLaw : Type 0
FewStatesLaw =
    (names : List (List ℕ)) (tree : PredTree) (i d : ℕ) (coefs : List ℤ) (bound : ℤ) (leaf : LeafModel)
    → fault_with Succinct tree ≡ None → slice_get (atoms tree) i ≡ Some (LessThan coefs bound)
    → slice_get (net_with Succinct names tree).leaves i ≡ Some leaf
    → All (λ a. nat_abs a < 2 ^ d) coefs → nat_abs bound < 2 ^ d
    → length leaf.states ≤ 2 * d + 5 + (d + 1) * length coefs
