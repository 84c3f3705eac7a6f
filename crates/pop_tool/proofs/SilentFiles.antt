-- The file of a bundle in which each leaf falls silent.
use Rattle.std.proofs.Common.{ℕ, List, [], ◌∷◌, length, map, ap, sym, refl, ◌≡◌, ◌∙◌, suc}
use Rattle.std.specs.Prelude.{All}
use Rattle.std.proofs.lemmas.List.Elements.{All-cons, All-nil, All-head, All-tail}
use Rattle.serde_json.specs.Data.{Data}
use Rattle.base_json.specs.Parts.{AreItems}
use Rattle.base_json.specs.Shapes.{listed}
use Rattle.cert_base.specs.declared.proof.LeafProof.{LeafProof}
use Rattle.cert_base.specs.declared.stable.StablePart.{StablePart}
use Rattle.cert_base.specs.declared.stable.StablePart.TheVariants.{Silent}
use Rattle.cert_base.specs.ProofLimits.{IsLeafProofWithin}
use Rattle.cert_base.specs.StableProof.{IsPartWithin}
use Rattle.cert_json.specs.declared.bundle.Bundle.{Bundle}
use Rattle.cert_json.specs.BundleFile.{IsBundleFile}
use Rattle.cert_json.specs.ProofFile.{IsLeafProofFile}
use Rattle.cert_json.specs.PartFile.{IsPartFile}
use Rattle.cert_json.specs.StableFile.{IsStableFile}
use Rattle.pop_tool.specs.Headline.{bundle_of_silent}

silent_items : (names : List (List ℕ)) (parts : List LeafProof) (ds : List Data) → AreItems (IsLeafProofFile names) parts ds → AreItems (IsPartFile names) (map Silent parts) ds
silent_items names [] [] are = are
silent_items names [] (d ∷ ds) are = are
silent_items names (part ∷ parts) [] are = are
silent_items names (part ∷ parts) (d ∷ ds) are = (are.0, silent_items names parts ds are.1)

silent_within : (n : ℕ) (parts : List LeafProof) → All (IsLeafProofWithin n) parts → All (IsPartWithin n) (map Silent parts)
silent_within n [] all = All-nil (IsPartWithin n)
silent_within n (part ∷ parts) all =
    All-cons (IsPartWithin n) (Silent part) (map Silent parts) (All-head (IsLeafProofWithin n) part parts all) (silent_within n parts (All-tail (IsLeafProofWithin n) part parts all))

silent_length : (parts : List LeafProof) → length (map Silent parts) ≡ length parts
silent_length [] = refl
silent_length (part ∷ parts) = ap suc (silent_length parts)

-- read as one whose leaves may have goals
pub silent_file : (bundle : Bundle) (d : Data) → IsBundleFile bundle d → IsStableFile (bundle_of_silent bundle) d
silent_file bundle d file =
    record {
      net = file.net;
      pred = file.pred;
      proof = (file.proof.0, file.proof.1, (file.proof.2.0, file.proof.2.1, silent_items bundle.net.variables bundle.proof.leaves (listed file.proof.2.0) file.proof.2.2));
      within = record {
        one_each = silent_length bundle.proof.leaves ∙ file.within.one_each;
        parts = silent_within (length bundle.net.variables) bundle.proof.leaves file.within.parts;
      };
    }
