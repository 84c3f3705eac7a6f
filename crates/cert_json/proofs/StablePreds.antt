-- The predicates of the leaves in the file of a bundle with goals are over the net's variables.
use Rattle.std.proofs.Common.{◌≡◌, ℕ, zero, suc, ◌≤◌, List, [], ◌∷◌, length, Some, subst}
use Rattle.std.specs.Prelude.{slice_get}
use Rattle.serde_json.specs.Data.{Data}
use Rattle.base_json.specs.Parts.{AreItems}
use Rattle.base_json.specs.Shapes.{listed}
use Rattle.pop_io.specs.declared.names.TheConstants.{VARIABLE_LIMIT}
use Rattle.pres_ast.specs.PredModel.{HasAtoms}
use Rattle.pop_leaf.specs.NetModel.{IsNet}
use Rattle.cert_base.specs.declared.stable.StablePart.{StablePart}
use Rattle.cert_base.specs.declared.stable.StablePart.TheVariants.{Silent, Stable}
use Rattle.cert_base.specs.StableProof.{pred_of_part}
use Rattle.cert_json.proofs.ReadPreds.{IsOver, text_over}
use Rattle.cert_json.specs.declared.stable.StableBundle.{StableBundle}
use Rattle.cert_json.specs.PartFile.{IsPartFile}
use Rattle.cert_json.specs.StableFile.{IsStableFile}

module _ (names : List (List ℕ)) (one : 1 ≤ length names) (most : length names ≤ VARIABLE_LIMIT) where
  part_over : (part : StablePart) (d : Data) → IsPartFile names part d → IsOver names one most (pred_of_part part)
  part_over (Silent part) d file = text_over names one most part.pred file.pred.0 file.pred.2
  part_over (Stable goals) d file = text_over names one most goals.pred file.1.pred.0 file.1.pred.2

  parts_over : (parts : List StablePart) (ds : List Data) → AreItems (IsPartFile names) parts ds
      → (i : ℕ) (part : StablePart) → slice_get parts i ≡ Some part → IsOver names one most (pred_of_part part)
  parts_over [] [] are i part e = cc
  parts_over [] (d ∷ ds) are i part e = absurd are
  parts_over (p ∷ parts) [] are i part e = absurd are
  parts_over (p ∷ parts) (d ∷ ds) are zero part e =
      let same : p ≡ part = cc in subst (λ (q : StablePart). IsOver names one most (pred_of_part q)) same (part_over p d are.0)
  parts_over (p ∷ parts) (d ∷ ds) are (suc i) part e = parts_over parts ds are.1 i part e

pub file_net : (bundle : StableBundle) (d : Data) → IsStableFile bundle d → IsNet bundle.net
file_net bundle d file = file.net.2.fits

-- the predicates of the leaves are over the net's variables, with coefficients for these alone
pub file_preds : (bundle : StableBundle) (d : Data) → IsStableFile bundle d
    → (i : ℕ) (part : StablePart) → slice_get bundle.proof.leaves i ≡ Some part → ((pred_of_part part).variables ≡ length bundle.net.variables) × HasAtoms (pred_of_part part).variables (pred_of_part part).tree
file_preds bundle d file =
    let net = file_net bundle d file in
    parts_over bundle.net.variables net.some_variable net.variables bundle.proof.leaves (listed file.proof.2.0) file.proof.2.2
