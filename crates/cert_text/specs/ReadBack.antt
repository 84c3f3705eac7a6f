-- ReadBack: a bundle's text is read back, and its data is the bundle's file.
use Rattle.std.specs.Prelude.{◌≡◌, [], ◌∷◌, length, All, Some, IsUtf8}
use Rattle.serde_json.specs.Written.{compact_text}
use Rattle.serde_json.specs.Read.{read}
use Rattle.base_lines.specs.Lines.{lines_of, ended}
use Rattle.pres_ast.specs.PredModel.{IsPred}
use Rattle.pop_leaf.specs.NetModel.{IsNet}
use Rattle.cert_base.specs.ProofLimits.{IsProofWithin}
use Rattle.cert_json.specs.declared.bundle.Bundle.{Bundle}
use Rattle.cert_json.specs.BundleFile.{IsBundleFile}
use Rattle.cert_text.specs.Bundle.{bundle_data}

-- a net, predicates over its variables, and a proof within the limits of a file
pub record IsWritable (bundle : Bundle) : Type 0 where
  pub net : IsNet bundle.net
  pub variables : bundle.pred.variables ≡ length bundle.net.variables
  pub pred : IsPred (length bundle.net.variables) bundle.pred.tree
  pub parts : All (λ part. IsPred (length bundle.net.variables) part.pred.tree) bundle.proof.leaves
  pub within : IsProofWithin (length bundle.net.variables) (length bundle.net.leaves) bundle.proof

-- the compact text is UTF-8, its value is the bundle's data, and that is the bundle's file
pub record IsReadBack (bundle : Bundle) : Type 0 where
  pub utf8 : IsUtf8 (compact_text (bundle_data bundle))
  pub value : read (compact_text (bundle_data bundle)) ≡ Some (bundle_data bundle)
  pub file : IsBundleFile bundle (bundle_data bundle)
  -- with a line feed after it, it is one line
  pub line : lines_of (ended (compact_text (bundle_data bundle))) ≡ compact_text (bundle_data bundle) ∷ []

abbrev pub BundlesAreReadBack : Type 0
BundlesAreReadBack = (bundle : Bundle) → IsWritable bundle → IsReadBack bundle
