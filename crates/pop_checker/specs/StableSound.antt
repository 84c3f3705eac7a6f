-- StableSound: a valid proof with goals shows that the net stably computes the predicate, by the definitions alone.
use Rattle.std.specs.Prelude.{◌≡◌, ℕ, length, Some, slice_get}
use Rattle.pres_ast.specs.PredModel.{PredModel, HasAtoms}
use Rattle.pop_leaf.specs.NetModel.{NetModel, IsNet}
use Rattle.cert_base.specs.declared.stable.StablePart.{StablePart}
use Rattle.cert_base.specs.declared.stable.StableProof.{StableProof}
use Rattle.cert_base.specs.StableProof.{pred_of_part}
use Rattle.theory_goals.specs.StablyRight.{IsStablyRight}
use Rattle.pop_checker.specs.ValidStable.{ValidStableProof, stable_bound}

-- the predicates of the leaves are over the net's variables, with coefficients for these alone
abbrev pub AreStablePreds : NetModel → StableProof → Type 0
AreStablePreds net proof =
    (i : ℕ) (part : StablePart) → slice_get proof.leaves i ≡ Some part
    → ((pred_of_part part).variables ≡ length net.variables)
    × HasAtoms (pred_of_part part).variables (pred_of_part part).tree

abbrev pub IsStablySound : Type 0
IsStablySound =
    (net : NetModel) (p : PredModel) (proof : StableProof) → IsNet net → AreStablePreds net proof
    → ValidStableProof net p proof → IsStablyRight net p.tree (stable_bound proof)
