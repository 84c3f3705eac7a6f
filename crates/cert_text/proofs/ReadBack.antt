-- A bundle within the limits of a file is read back from its text.
use Rattle.std.proofs.Common.{◌≡◌, ℕ, List, [], ◌∷◌, refl, sym, ap, ◌∙◌, arith, append-nil}
use Rattle.serde_json.specs.Data.{string}
use Rattle.serde_json.specs.Written.{compact_text}
use Rattle.base_lines.specs.Lines.{lines_of, ended}
use Rattle.base_lines.proofs.Pieces.{lines-nil}
use Rattle.base_lines.proofs.Unbroken.{IsUnbroken, line_first}
use Rattle.net_json.specs.Written.{net_data}
use Rattle.net_json.proofs.Writes.{net_file}
use Rattle.pres_read.specs.Canonical.{tree_text}
use Rattle.cert_json.specs.Written.{proof_data}
use Rattle.cert_json.specs.declared.bundle.Bundle.{Bundle}
use Rattle.cert_json.specs.BundleFile.{IsBundleFile}
use Rattle.cert_json.proofs.WrittenFiles.{pred_is, proof_is}
use Rattle.cert_text.specs.Bundle.{bundle_data}
use Rattle.cert_text.specs.ReadBack.{IsWritable, BundlesAreReadBack}
use Rattle.cert_text.proofs.Readable.{read_again}
use Rattle.cert_text.proofs.WrittenData.{bundle_readable}

written_file : (bundle : Bundle) → IsWritable bundle → IsBundleFile bundle (bundle_data bundle)
unfolding bundle_data
written_file bundle is =
    let names = bundle.net.variables in
    record {
      net = (net_data bundle.net, refl, net_file bundle.net is.net);
      pred = (string (tree_text names bundle.pred.tree), refl, pred_is names is.net.variable_names bundle.pred is.variables is.pred);
      proof = (proof_data names bundle.proof, refl, proof_is names is.net.variable_names bundle.proof (λ i part within. (is.within.parts i part within, is.parts i part within)));
      within = is.within;
    }

one_line : (text : List ℕ) → IsUnbroken text → lines_of (ended text) ≡ text ∷ []
one_line text unbroken =
    ap lines_of (sym (append-nil (ended text))) ∙ line_first text [] unbroken ∙ ap (λ (ls : List (List ℕ)). text ∷ ls) lines-nil

pub read_back : BundlesAreReadBack
read_back bundle is =
    let readable = bundle_readable bundle is in
    record { utf8 = readable.utf8; value = read_again 7 (bundle_data bundle) (omega arith) readable; file = written_file bundle is; line = one_line (compact_text (bundle_data bundle)) readable.unbroken }
