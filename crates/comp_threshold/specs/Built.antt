-- Built: what `threshold` gives.
use Rattle.std.specs.Prelude.{◌≡◌, ℕ, ◌+◌, ◌<◌, ◌≤◌, List, ℤ, length, Result, IfOk}
use Rattle.pop_io.specs.declared.failure.Failure.{Failure}
use Rattle.pop_io.specs.Failures.{IfFault}
use Rattle.pop_leaf.specs.LeafModel.{LeafModel}
use Rattle.pres_ast.specs.PredTree.{LessThan}
use Rattle.cert_base.specs.declared.proof.LeafProof.{LeafProof}
use Rattle.comp_trees.specs.BuiltLeaf.{IsBuilt}
use Rattle.comp_threshold.specs.ThresholdLeaf.{threshold_width, threshold_leaf_of}
use Rattle.comp_threshold.specs.declared.limits.TheConstants.{WIDTH_LIMIT}
use Rattle.comp_threshold.specs.declared.fault.ThresholdFault.{ThresholdFault}
use Rattle.comp_threshold.specs.declared.fault.ThresholdFault.TheVariants.{TooWide}

-- how many steps per agent the proof allows: one more than the width in the first layer, and one in each of the others
abbrev pub threshold_steps : List ℤ → ℤ → ℕ
threshold_steps coefs bound = threshold_width coefs bound + 3

-- a leaf and its proof are those of `Less`
abbrev pub IsThreshold : List ℤ → ℤ → LeafModel → LeafProof → Type 0
IsThreshold coefs bound =
    IsBuilt (threshold_leaf_of coefs bound) (record { variables = length coefs; tree = LessThan coefs bound })
    (threshold_steps coefs bound)

-- the width is named, and it is over the limit
abbrev pub IsWidthFault : List ℤ → ℤ → ThresholdFault → Type 0
IsWidthFault coefs bound (TooWide s) = (s ≡ threshold_width coefs bound) × (WIDTH_LIMIT < s)

-- the leaf and its proof, if the width is within the limit
pub record BuildsThreshold (coefs : List ℤ) (bound : ℤ) (result : Result (LeafModel × LeafProof) (Failure ThresholdFault))
    : Type 0 where
  pub built : IfOk result (λ both. IsThreshold coefs bound both.0 both.1)
  pub narrow : IfOk result (λ both. threshold_width coefs bound ≤ WIDTH_LIMIT)
  pub wide : IfFault result (IsWidthFault coefs bound)
