-- A bundle as JSON data: its net, its predicate's canonical text and its proof, in the byte order of their names.
use Rattle.std.specs.Prelude.{codes}
use Rattle.serde_json.specs.Data.{Data, string, object, member, no_members}
use Rattle.pres_read.specs.Canonical.{tree_text}
use Rattle.net_json.specs.Written.{net_data}
use Rattle.cert_json.specs.declared.bundle.Bundle.{Bundle}
use Rattle.cert_json.specs.Written.{proof_data}

abbrev pub bundle_members : Data → Data → Data → Data
bundle_members net pred proof =
    object (member (codes "net") net (member (codes "pred") pred (member (codes "proof") proof no_members)))

unfoldable pub bundle_data : Bundle → Data
bundle_data bundle =
    bundle_members (net_data bundle.net) (string (tree_text bundle.net.variables bundle.pred.tree))
    (proof_data bundle.net.variables bundle.proof)
