-- What is written: the named members alone, in the byte order of their names.
use Rattle.std.specs.Prelude.{ℕ, ℤ, List, [], ◌∷◌, codes, map}
use Rattle.serde_json.specs.Data.{Data, number, string, object, member, no_members}
use Rattle.serde_json.specs.Find.{of_integer}
use Rattle.net_json.specs.Written.{number_data, list_data, numbers_data}
use Rattle.pres_read.specs.Canonical.{tree_text}
use Rattle.cert_base.specs.declared.fact.Term.{Term}
use Rattle.cert_base.specs.declared.layer.Layer.{Layer}
use Rattle.cert_base.specs.declared.node.Node.{Node}
use Rattle.cert_base.specs.declared.node.Node.TheVariants.{Linear, Residue, Split, Present, Twin, Trap, Siphon, Open}
use Rattle.cert_base.specs.declared.node.Node.TheVariants.{First}
use Rattle.cert_base.specs.declared.proof.Proof.{Proof}
use Rattle.cert_base.specs.declared.proof.LeafProof.{LeafProof}

abbrev pub integer_data : ℤ → Data
integer_data z = number (of_integer z)

abbrev pub integers_data : List ℤ → Data
integers_data integers = list_data (map integer_data integers)

abbrev pub term_data : Term → Data
term_data t = list_data (number_data t.at ∷ integer_data t.by ∷ [])

abbrev pub terms_data : List Term → Data
terms_data terms = list_data (map term_data terms)

-- a word, and one part or two
abbrev pub one_part : List ℕ → Data → Data
one_part word part = list_data (string word ∷ part ∷ [])

abbrev pub two_parts : List ℕ → Data → Data → Data
two_parts word part rest = list_data (string word ∷ part ∷ rest ∷ [])

abbrev pub node_data : Node → Data
node_data (Linear terms) = one_part (codes "lin") (terms_data terms)
node_data (Residue m terms) = two_parts (codes "residue") (number_data m) (terms_data terms)
node_data (Split row) = two_parts (codes "split") (terms_data row.terms) (integer_data row.constant)
node_data (Present p) = one_part (codes "present") (number_data p)
node_data (Twin p) = one_part (codes "twin") (number_data p)
node_data (Trap set) = one_part (codes "trap") (numbers_data set)
node_data (Siphon set) = one_part (codes "siphon") (numbers_data set)
node_data (Open f) = one_part (codes "open") (number_data f)
node_data (First set) = one_part (codes "first") (numbers_data set)

abbrev pub nodes_data : List Node → Data
nodes_data nodes = list_data (map node_data nodes)

abbrev pub layer_members : Data → Data → Data
layer_members moves weights =
    object (member (codes "moves") moves (member (codes "weights") weights no_members))

unfoldable pub layer_data : Layer → Data
layer_data layer = layer_members (numbers_data layer.moves) (integers_data layer.weights)

abbrev pub leaf_proof_members : Data → Data → Data → Data → Data
leaf_proof_members on_false layers pred on_true =
    object
    (member (codes "false") on_false
    (member (codes "layers") layers (member (codes "pred") pred (member (codes "true") on_true no_members))))

unfoldable pub leaf_proof_data : List (List ℕ) → LeafProof → Data
leaf_proof_data names part =
    leaf_proof_members (nodes_data part.on_false) (list_data (map layer_data part.layers))
    (string (tree_text names part.pred.tree)) (nodes_data part.on_true)

unfoldable pub proof_data : List (List ℕ) → Proof → Data
proof_data names proof = list_data (map (leaf_proof_data names) proof.leaves)
