-- The data of a bundle within the limits of a file is read back from its text.
use Rattle.std.proofs.Common.{ℕ, ◌+◌, ◌≤◌, ◌<◌, ◌^◌, Bool, true, false, List, [], ◌∷◌, length, map, codes, ℤ, IsUtf8, refl, arith}
use Rattle.std.specs.Prelude.{All}
use Rattle.json.proofs.Printed.Utf8.{IsUtf8-are_ascii}
use Rattle.serde_json.specs.Data.{Data, Members, no_members, member, string, boolean}
use Rattle.pres_ast.specs.PredModel.{IsPred}
use Rattle.pop_leaf.specs.declared.leaf.Move.{Move}
use Rattle.pop_leaf.specs.declared.item.Item.{Item}
use Rattle.pop_leaf.specs.declared.item.Item.TheVariants.{Leaf, Not, And, Or}
use Rattle.pop_leaf.specs.declared.limits.TheConstants.{STATE_LIMIT, LEAF_LIMIT}
use Rattle.pop_leaf.specs.LeafModel.{LeafModel, IsLeaf, IsMoveBelow}
use Rattle.pop_leaf.specs.NetModel.{NetModel, IsNet, NamesBelow}
use Rattle.pres_read.specs.Canonical.{tree_text}
use Rattle.net_json.specs.Written.{number_data, list_data, texts_data, numbers_data, truths_data, move_data, item_data, leaf_data, format_of, is_helped, net_data}
use Rattle.cert_base.specs.declared.fact.Term.{Term}
use Rattle.cert_base.specs.declared.layer.Layer.{Layer}
use Rattle.cert_base.specs.declared.node.Node.{Node}
use Rattle.cert_base.specs.declared.node.Node.TheVariants.{Linear, Residue, Split, Present, Twin, Trap, Siphon, Open}
use Rattle.cert_base.specs.declared.node.Node.TheVariants.{First}
use Rattle.cert_base.specs.declared.proof.Proof.{Proof}
use Rattle.cert_base.specs.declared.proof.LeafProof.{LeafProof}
use Rattle.cert_base.specs.ProofLimits.{IsSmall, IsTermWithin, AreTermsWithin, IsSetWithin, IsNodeWithin, AreNodesWithin, IsLayerWithin, IsLeafProofWithin}
use Rattle.cert_json.specs.Written.{integer_data, term_data, terms_data, one_part, two_parts, node_data, nodes_data, layer_data, leaf_proof_data, proof_data}
use Rattle.cert_json.specs.declared.bundle.Bundle.{Bundle}
use Rattle.cert_text.specs.Bundle.{bundle_data}
use Rattle.cert_text.specs.ReadBack.{IsWritable}
use Rattle.cert_text.proofs.Readable.{IsReadable, readable_within, readable_number, readable_integer, readable_boolean, readable_string, none_readable, one_more, readable_array, readable_list, ReadTogether, no_member, with_member, readable_object}
use Rattle.cert_text.proofs.TextBytes.{state_utf8, variable_utf8, tree_utf8}

number_readable : (n : ℕ) → n < 2 ^ 32 → IsReadable 0 (number_data n)
number_readable n small = readable_number n (omega (arith, small))

texts_readable : (texts : List (List ℕ)) → All IsUtf8 texts → IsReadable 1 (texts_data texts)
texts_readable texts all = readable_list IsUtf8 string 0 readable_string texts all

numbers_readable : (n : ℕ) → n ≤ 2 ^ 32 → (numbers : List ℕ) → All (λ q. q < n) numbers → IsReadable 1 (numbers_data numbers)
numbers_readable n few numbers below = readable_list (λ q. q < n) number_data 0 (λ q low. number_readable q (omega (arith, low, few))) numbers below

truths_readable : (truths : List Bool) → IsReadable 1 (truths_data truths)
truths_readable truths = readable_list (λ _. Unit {0}) boolean 0 (λ b any. readable_boolean b) truths (λ i d within. tt)

-- a list of two or three values
pair_readable : (n : ℕ) (a b : Data) → IsReadable n a → IsReadable n b → IsReadable (n + 1) (list_data (a ∷ b ∷ []))
pair_readable n a b one two = readable_array n _ (one_more n a _ one (one_more n b _ two (none_readable n)))

three_readable : (n : ℕ) (a b c : Data) → IsReadable n a → IsReadable n b → IsReadable n c → IsReadable (n + 1) (list_data (a ∷ b ∷ c ∷ []))
three_readable n a b c one two three =
    readable_array n _ (one_more n a _ one (one_more n b _ two (one_more n c _ three (none_readable n))))

-- a member, whose name is ASCII
module _ (n : ℕ) where
  named : (k : List ℕ) (d : Data) (ms : Members) (m : ℕ) → IsUtf8 k → m ≤ n → IsReadable m d → ReadTogether n ms → ReadTogether n (member k d ms)
  named k d ms m key few one more = with_member n k d ms key (readable_within m n d few one) more

module _ (states : ℕ) (few : states ≤ STATE_LIMIT) where
  state_readable : (q : ℕ) → q < states → IsReadable 0 (number_data q)
  state_readable q below = number_readable q (omega (arith, below, few))

  move_readable : (t : Move) → IsMoveBelow states t → IsReadable 1 (move_data t)
  move_readable t below =
      readable_array 0 _
      (one_more 0 (number_data t.p) _ (state_readable t.p below.0)
      (one_more 0 (number_data t.q) _ (state_readable t.q below.1)
      (one_more 0 (number_data t.r) _ (state_readable t.r below.2)
      (one_more 0 (number_data t.s) _ (state_readable t.s below.3) (none_readable 0)))))

leaf_readable : (helped : Bool) (leaf : LeafModel) → IsLeaf leaf → IsReadable 3 (leaf_data helped leaf)
unfolding leaf_data
leaf_readable helped leaf is = by helped
  where
    n : ℕ
    n = length leaf.states

    below : n ≤ 2 ^ 32
    below = omega (arith, is.states)

    rest : ReadTogether 2 (member (codes "input") (numbers_data leaf.inputs) (member (codes "moves") (list_data (map move_data leaf.moves))
        (member (codes "output") (truths_data leaf.outputs) (member (codes "states") (texts_data leaf.states) no_members))))
    rest =
        named 2 (codes "input") _ _ 1 (IsUtf8-are_ascii _ refl) (omega arith) (numbers_readable n below leaf.inputs is.inputs)
        (named 2 (codes "moves") _ _ 2 (IsUtf8-are_ascii _ refl) (omega arith) (readable_list (IsMoveBelow n) move_data 1 (move_readable n is.states) leaf.moves is.moves)
        (named 2 (codes "output") _ _ 1 (IsUtf8-are_ascii _ refl) (omega arith) (truths_readable leaf.outputs)
        (named 2 (codes "states") _ _ 1 (IsUtf8-are_ascii _ refl) (omega arith) (texts_readable leaf.states (λ i name within. state_utf8 _ (is.names.0 i name within)))
        (no_member 2))))

    by : (helped : Bool) → IsReadable 3 (leaf_data helped leaf)
    by false = readable_object 2 _ rest refl
    by true = readable_object 2 _ (named 2 (codes "helpers") _ _ 1 (IsUtf8-are_ascii _ refl) (omega arith) (numbers_readable n below leaf.helpers is.helpers) rest) refl

item_readable : (leaves : ℕ) → leaves ≤ LEAF_LIMIT → (item : Item) → NamesBelow leaves item → IsReadable 0 (item_data item)
item_readable leaves few (Leaf i) below = number_readable i (omega (arith, below, few))
item_readable leaves few Not below = readable_string (codes "not") (IsUtf8-are_ascii _ refl)
item_readable leaves few And below = readable_string (codes "and") (IsUtf8-are_ascii _ refl)
item_readable leaves few Or below = readable_string (codes "or") (IsUtf8-are_ascii _ refl)

format_readable : (helped : Bool) → IsReadable 0 (number_data (format_of helped))
format_readable true = number_readable _ (omega arith)
format_readable false = number_readable _ (omega arith)

net_readable : (net : NetModel) → IsNet net → IsReadable 5 (net_data net)
unfolding net_data
net_readable net is =
    readable_object 4 _
    (named 4 (codes "combine") _ _ 1 (IsUtf8-are_ascii _ refl) (omega arith) (readable_list (NamesBelow (length net.leaves)) item_data 0 (item_readable (length net.leaves) is.leaf_count) net.combine is.leaf_numbers)
    (named 4 (codes "format") _ _ 0 (IsUtf8-are_ascii _ refl) (omega arith) (format_readable (is_helped net))
    (named 4 (codes "leaves") _ _ 4 (IsUtf8-are_ascii _ refl) (omega arith) (readable_list IsLeaf (leaf_data (is_helped net)) 3 (leaf_readable (is_helped net)) net.leaves is.leaves)
    (named 4 (codes "vars") _ _ 1 (IsUtf8-are_ascii _ refl) (omega arith) (texts_readable net.variables (λ i name within. variable_utf8 _ (is.variable_names.0 i name within)))
    (no_member 4))))) refl

small_readable : (z : ℤ) → IsSmall z → IsReadable 0 (integer_data z)
small_readable z small = readable_integer z (omega (arith, small))

term_readable : (t : Term) → IsTermWithin t → IsReadable 1 (term_data t)
term_readable t fits = pair_readable 0 (number_data t.at) (integer_data t.by) (number_readable t.at fits.0) (small_readable t.by fits.1)

terms_readable : (terms : List Term) → AreTermsWithin terms → IsReadable 2 (terms_data terms)
terms_readable terms fits = readable_list IsTermWithin term_data 1 term_readable terms fits.1

set_readable : (set : List ℕ) → IsSetWithin set → IsReadable 1 (numbers_data set)
set_readable set fits = numbers_readable (2 ^ 16) (omega arith) set fits.1

-- a word, and a part or two
one_readable : (word : List ℕ) (part : Data) (m : ℕ) → IsUtf8 word → m ≤ 2 → IsReadable m part → IsReadable 3 (one_part word part)
one_readable word part m u few is = pair_readable 2 (string word) part (readable_within 0 2 _ (omega arith) (readable_string word u)) (readable_within m 2 part few is)

two_readable : (word : List ℕ) (part rest : Data) (m k : ℕ) → IsUtf8 word → m ≤ 2 → IsReadable m part → k ≤ 2 → IsReadable k rest → IsReadable 3 (two_parts word part rest)
two_readable word part rest m k u few is low more =
    three_readable 2 (string word) part rest (readable_within 0 2 _ (omega arith) (readable_string word u)) (readable_within m 2 part few is) (readable_within k 2 rest low more)

node_readable : (node : Node) → IsNodeWithin node → IsReadable 3 (node_data node)
node_readable (Linear terms) fits = one_readable (codes "lin") (terms_data terms) 2 (IsUtf8-are_ascii _ refl) (omega arith) (terms_readable terms fits)
node_readable (Residue m terms) fits = two_readable (codes "residue") (number_data m) (terms_data terms) 0 2 (IsUtf8-are_ascii _ refl) (omega arith) (number_readable m (omega (arith, fits.1))) (omega arith) (terms_readable terms fits.2)
node_readable (Split row) fits = two_readable (codes "split") (terms_data row.terms) (integer_data row.constant) 2 0 (IsUtf8-are_ascii _ refl) (omega arith) (terms_readable row.terms fits.0) (omega arith) (small_readable row.constant fits.2)
node_readable (Present p) fits = one_readable (codes "present") (number_data p) 0 (IsUtf8-are_ascii _ refl) (omega arith) (number_readable p (omega (arith, fits)))
node_readable (Twin p) fits = one_readable (codes "twin") (number_data p) 0 (IsUtf8-are_ascii _ refl) (omega arith) (number_readable p (omega (arith, fits)))
node_readable (Trap set) fits = one_readable (codes "trap") (numbers_data set) 1 (IsUtf8-are_ascii _ refl) (omega arith) (set_readable set fits)
node_readable (Siphon set) fits = one_readable (codes "siphon") (numbers_data set) 1 (IsUtf8-are_ascii _ refl) (omega arith) (set_readable set fits)
node_readable (Open f) fits = one_readable (codes "open") (number_data f) 0 (IsUtf8-are_ascii _ refl) (omega arith) (number_readable f fits)
node_readable (First set) fits = one_readable (codes "first") (numbers_data set) 1 (IsUtf8-are_ascii _ refl) (omega arith) (set_readable set fits)

nodes_readable : (nodes : List Node) → AreNodesWithin nodes → IsReadable 4 (nodes_data nodes)
nodes_readable nodes fits = readable_list IsNodeWithin node_data 3 node_readable nodes fits.1

layer_readable : (layer : Layer) → IsLayerWithin layer → IsReadable 2 (layer_data layer)
unfolding layer_data
layer_readable layer fits =
    readable_object 1 _
    (named 1 (codes "moves") _ _ 1 (IsUtf8-are_ascii _ refl) (omega arith) (numbers_readable (2 ^ 32) (omega arith) layer.moves fits.moves)
    (named 1 (codes "weights") _ _ 1 (IsUtf8-are_ascii _ refl) (omega arith) (readable_list IsSmall integer_data 0 small_readable layer.weights fits.weights)
    (no_member 1))) refl

module _ (names : List (List ℕ)) (utf8 : All IsUtf8 names) where
  pred_readable : (part : LeafProof) → IsPred (length names) part.pred.tree → IsReadable 0 (string (tree_text names part.pred.tree))
  pred_readable part limits = readable_string (tree_text names part.pred.tree) (tree_utf8 names utf8 part.pred.tree limits.atoms)

  abbrev Fits : LeafProof → Type 0
  Fits part = IsLeafProofWithin (length names) part × IsPred (length names) part.pred.tree

  part_readable : (part : LeafProof) → Fits part → IsReadable 5 (leaf_proof_data names part)
  unfolding leaf_proof_data
  part_readable part fits =
      readable_object 4 _
      (named 4 (codes "false") _ _ 4 (IsUtf8-are_ascii _ refl) (omega arith) (nodes_readable part.on_false fits.0.on_false)
      (named 4 (codes "layers") _ _ 3 (IsUtf8-are_ascii _ refl) (omega arith) (readable_list IsLayerWithin layer_data 2 layer_readable part.layers fits.0.layers)
      (named 4 (codes "pred") _ _ 0 (IsUtf8-are_ascii _ refl) (omega arith) (pred_readable part fits.1)
      (named 4 (codes "true") _ _ 4 (IsUtf8-are_ascii _ refl) (omega arith) (nodes_readable part.on_true fits.0.on_true)
      (no_member 4))))) refl

  proof_readable : (proof : Proof) → All Fits proof.leaves → IsReadable 6 (proof_data names proof)
  unfolding proof_data
  proof_readable proof fits = readable_list Fits (leaf_proof_data names) 5 part_readable proof.leaves fits

pub bundle_readable : (bundle : Bundle) → IsWritable bundle → IsReadable 7 (bundle_data bundle)
unfolding bundle_data
bundle_readable bundle is =
    let names = bundle.net.variables in
    let utf8 : All IsUtf8 names = λ i name within. variable_utf8 _ (is.net.variable_names.0 i name within) in
    readable_object 6 _
    (named 6 (codes "net") _ _ 5 (IsUtf8-are_ascii _ refl) (omega arith) (net_readable bundle.net is.net)
    (named 6 (codes "pred") _ _ 0 (IsUtf8-are_ascii _ refl) (omega arith) (readable_string _ (tree_utf8 names utf8 bundle.pred.tree is.pred.atoms))
    (named 6 (codes "proof") _ _ 6 (IsUtf8-are_ascii _ refl) (omega arith) (proof_readable names utf8 bundle.proof (λ i part within. (is.within.parts i part within, is.parts i part within)))
    (no_member 6)))) refl
