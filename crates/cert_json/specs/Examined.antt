-- The order in which a proof's value is examined: member by member, each whole before the next; of a list its kind,
-- then its length, then item by item. The first broken rule is the fault.
use Rattle.std.specs.Prelude.{ℕ, ◌-◌, List, [], map, codes, ℤ, Option, Some, None, Result, Ok, Err}
use Rattle.serde_json.specs.Data.{Data}
use Rattle.base_json.specs.declared.fault.Why.TheVariants.{Name, Pred}
use Rattle.base_json.specs.declared.fault.PredWhy.{PredWhy}
use Rattle.base_json.specs.declared.fault.PredWhy.TheVariants as why
use Rattle.base_json.specs.Faults.{Fault, ◌>>=◌, broken}
use Rattle.base_json.specs.Paths.{item_path}
use Rattle.base_json.specs.Shapes.{object_at, member_by, number_at, integer_at, last_of, ascending_at, text_at}
use Rattle.base_json.specs.Shapes.{items_at, pair_at, word_at, one_after, two_after, each_at}
use Rattle.pres_ast.specs.PredModel.{PredModel}
use Rattle.pres_read.specs.declared.fault.ReadPred.{ReadPred}
use Rattle.pres_read.specs.declared.fault.ReadPred.TheVariants.{Syntax, UnknownName, TooLarge, TooDeep, LongText}
use Rattle.pres_read.specs.Reading.{pred_read}
use Rattle.cert_base.specs.declared.fact.Term.{Term}
use Rattle.cert_base.specs.declared.layer.Layer.{Layer}
use Rattle.cert_base.specs.declared.node.Node.{Node}
use Rattle.cert_base.specs.declared.node.Node.TheVariants.{Linear, Residue, Split, Present, Twin, Trap, Siphon, Open}
use Rattle.cert_base.specs.declared.node.Node.TheVariants.{First}
use Rattle.cert_base.specs.declared.proof.Proof.{Proof}
use Rattle.cert_base.specs.declared.proof.LeafProof.{LeafProof}
use Rattle.cert_base.specs.declared.limits.TheConstants.{LAYER_LIMIT, NODE_LIMIT, TERM_LIMIT, SIZE_LIMIT}
use Rattle.cert_base.specs.declared.limits.TheConstants.{INDEX_COUNT, STATE_INDEX_COUNT}
use Rattle.pop_leaf.specs.declared.limits.TheConstants.{STATE_LIMIT, MOVE_LIMIT}
use Rattle.pres_ast.specs.declared.limits.TheConstants.{MODULUS_LIMIT}
use Rattle.cert_json.specs.declared.kind.NodeKind.{NodeKind}
use Rattle.cert_json.specs.declared.kind.NodeKind.TheVariants as kind
use Rattle.cert_json.specs.Kinds.{kind_named}

-- why a text is no predicate, as a refusal says it
abbrev pub why_of : ReadPred → PredWhy
why_of (Syntax at) = why.Syntax at
why_of (UnknownName at) = why.UnknownName at
why_of (TooLarge at) = why.TooLarge at
why_of (TooDeep at) = why.TooDeep at
why_of (LongText n) = why.LongText n

-- a predicate, or what is wrong with its text
abbrev pub pred_or_why : List ℕ → Result PredModel ReadPred → Result PredModel Fault
pred_or_why path (Ok p) = Ok p
pred_or_why path (Err fault) = broken path (Pred (why_of fault))

-- a predicate over these names
unfoldable pub pred_at : List (List ℕ) → List ℕ → Data → Result PredModel Fault
pred_at names path d = do
  s ← text_at path d
  pred_or_why path (pred_read names s)

-- a number of a fact, a variable or a move
abbrev pub index_at : List ℕ → Data → Result ℕ Fault
index_at path d = number_at path 0 (INDEX_COUNT - 1) d

-- a number of a state
abbrev pub state_at : List ℕ → Data → Result ℕ Fault
state_at path d = number_at path 0 (STATE_INDEX_COUNT - 1) d

abbrev pub modulus_at : List ℕ → Data → Result ℕ Fault
modulus_at path d = number_at path 2 MODULUS_LIMIT d

-- a weight, a multiplier, a coefficient or a constant
abbrev pub small_at : List ℕ → Data → Result ℤ Fault
small_at path d = integer_at path SIZE_LIMIT d

abbrev pub term_from : List ℕ → (List ℕ → Data → Result ℕ Fault) → Data × Data → Result Term Fault
term_from path number p = do
  n ← number (item_path path 0) p.0
  z ← small_at (item_path path 1) p.1
  Ok (record { at = n; by = z })

-- a fact's number and its multiplier
unfoldable pub term_at : List ℕ → Data → Result Term Fault
term_at path d = pair_at path d >>= term_from path index_at

abbrev pub term_item : List ℕ → List Term → Data → Result Term Fault
term_item path found d = term_at path d

abbrev pub terms_at : List ℕ → Data → Result (List Term) Fault
terms_at path d = each_at term_item path 0 TERM_LIMIT d

-- a variable's number, greater than the one before it, and its coefficient
unfoldable pub row_term_at : List ℕ → Option ℕ → Data → Result Term Fault
row_term_at path before d = pair_at path d >>= term_from path (λ p e. ascending_at p (INDEX_COUNT - 1) before e)

abbrev pub numbers_of : List Term → List ℕ
numbers_of terms = map (λ t. t.at) terms

abbrev pub row_term_item : List ℕ → List Term → Data → Result Term Fault
row_term_item path found d = row_term_at path (last_of (numbers_of found)) d

abbrev pub row_terms_at : List ℕ → Data → Result (List Term) Fault
row_terms_at path d = each_at row_term_item path 0 TERM_LIMIT d

-- a state with a greater number than the one before it
abbrev pub set_state_item : List ℕ → List ℕ → Data → Result ℕ Fault
set_state_item path found d = ascending_at path (STATE_INDEX_COUNT - 1) (last_of found) d

abbrev pub set_states_at : List ℕ → Data → Result (List ℕ) Fault
set_states_at path d = each_at set_state_item path 0 STATE_LIMIT d

-- the item after the word, if it is the only one, read by this reader at its path
abbrev pub only_by : {A : Type 0} → (List ℕ → Data → Result A Fault) → List ℕ → List Data → Result A Fault
only_by read path ds = one_after path ds >>= λ d. read (item_path path 1) d

abbrev pub with_one : {A : Type 0} → (List ℕ → Data → Result A Fault) → (A → Node)
    → List ℕ → List Data → Result Node Fault
with_one read make path ds = do
  x ← only_by read path ds
  Ok (make x)

abbrev pub with_two : {A B : Type 0} → (List ℕ → Data → Result A Fault) → (List ℕ → Data → Result B Fault)
    → (A → B → Node)
    → List ℕ → List Data → Result Node Fault
with_two read other make path ds = do
  p ← two_after path ds
  x ← read (item_path path 1) p.0
  y ← other (item_path path 2) p.1
  Ok (make x y)

abbrev pub split_by : List Term → ℤ → Node
split_by terms constant = Split (record { terms = terms; constant = constant })

-- what stands after the word, for each kind of node
abbrev pub after_word : List ℕ → NodeKind → List Data → Result Node Fault
after_word path kind.Linear ds = with_one terms_at Linear path ds
after_word path kind.Residue ds = with_two modulus_at terms_at Residue path ds
after_word path kind.Split ds = with_two row_terms_at small_at split_by path ds
after_word path kind.Present ds = with_one state_at Present path ds
after_word path kind.Twin ds = with_one state_at Twin path ds
after_word path kind.Trap ds = with_one set_states_at Trap path ds
after_word path kind.Siphon ds = with_one set_states_at Siphon path ds
after_word path kind.Open ds = with_one index_at Open path ds
after_word path kind.First ds = with_one set_states_at First path ds

-- a word that no node has is refused before the number of items is looked at
abbrev pub by_kind : List ℕ → Option NodeKind → List Data → Result Node Fault
by_kind path None ds = broken (item_path path 0) Name
by_kind path (Some k) ds = after_word path k ds

unfoldable pub node_at : List ℕ → Data → Result Node Fault
node_at path d = do
  ds ← items_at path d
  s ← word_at path ds
  by_kind path (kind_named s) ds

abbrev pub node_item : List ℕ → List Node → Data → Result Node Fault
node_item path found d = node_at path d

abbrev pub nodes_at : List ℕ → Data → Result (List Node) Fault
nodes_at path d = each_at node_item path 0 NODE_LIMIT d

abbrev pub index_item : List ℕ → List ℕ → Data → Result ℕ Fault
index_item path found d = index_at path d

abbrev pub layer_moves_at : List ℕ → Data → Result (List ℕ) Fault
layer_moves_at path d = each_at index_item path 0 MOVE_LIMIT d

abbrev pub weight_item : List ℕ → List ℤ → Data → Result ℤ Fault
weight_item path found d = small_at path d

abbrev pub weights_at : List ℕ → Data → Result (List ℤ) Fault
weights_at path d = each_at weight_item path 0 STATE_LIMIT d

unfoldable pub layer_at : List ℕ → Data → Result Layer Fault
layer_at path d = do
  o ← object_at path d
  ms ← member_by path (codes "moves") layer_moves_at d
  ws ← member_by path (codes "weights") weights_at d
  Ok (record { moves = ms; weights = ws })

abbrev pub layer_item : List ℕ → List Layer → Data → Result Layer Fault
layer_item path found d = layer_at path d

abbrev pub layers_at : List ℕ → Data → Result (List Layer) Fault
layers_at path d = each_at layer_item path 0 LAYER_LIMIT d

unfoldable pub leaf_proof_at : List (List ℕ) → List ℕ → Data → Result LeafProof Fault
leaf_proof_at names path d = do
  o ← object_at path d
  p ← member_by path (codes "pred") (pred_at names) d
  ls ← member_by path (codes "layers") layers_at d
  ts ← member_by path (codes "true") nodes_at d
  fs ← member_by path (codes "false") nodes_at d
  Ok (record { pred = p; layers = ls; on_true = ts; on_false = fs })

abbrev pub leaf_proof_item : List (List ℕ) → List ℕ → List LeafProof → Data → Result LeafProof Fault
leaf_proof_item names path found d = leaf_proof_at names path d

-- one proof for each leaf; a wrong number of them is refused before any is examined
abbrev pub leaf_proofs_at : List (List ℕ) → ℕ → List ℕ → Data → Result (List LeafProof) Fault
leaf_proofs_at names leaves path d = each_at (leaf_proof_item names) path leaves leaves d

-- the member `proof` of a bundle, over these names and for this many leaves
unfoldable pub proof_at : List (List ℕ) → ℕ → Data → Result Proof Fault
proof_at names leaves d = do
  parts ← member_by [] (codes "proof") (leaf_proofs_at names leaves) d
  Ok (record { leaves = parts })
