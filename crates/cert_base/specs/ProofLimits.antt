-- ProofLimits: how long the lists of a proof may be, and how great its numbers.
use Rattle.std.specs.Prelude.{◌≡◌, ℕ, ◌<◌, ◌≤◌, List, [], ◌∷◌, ℤ, nat_abs, length, map, All}
use Rattle.pop_leaf.specs.declared.limits.TheConstants.{MOVE_LIMIT, STATE_LIMIT}
use Rattle.pres_ast.specs.declared.limits.TheConstants.{MODULUS_LIMIT}
use Rattle.cert_base.specs.declared.limits.TheConstants.{LAYER_LIMIT, NODE_LIMIT, SET_LIMIT, TERM_LIMIT}
use Rattle.cert_base.specs.declared.limits.TheConstants.{SIZE_LIMIT, INDEX_COUNT, STATE_INDEX_COUNT}
use Rattle.cert_base.specs.declared.fact.Term.{Term}
use Rattle.cert_base.specs.declared.layer.Layer.{Layer}
use Rattle.cert_base.specs.declared.node.Node.{Node}
use Rattle.cert_base.specs.declared.node.Node.TheVariants.{Linear, Residue, Split, Present, Twin, Trap, Siphon, Open}
use Rattle.cert_base.specs.declared.node.Node.TheVariants.{First}
use Rattle.cert_base.specs.declared.proof.Proof.{Proof}
use Rattle.cert_base.specs.declared.proof.LeafProof.{LeafProof}
use Rattle.cert_base.specs.declared.proof.Goal.{Goal}

-- no greater in size than a number of a proof may be
abbrev pub IsSmall : ℤ → Type 0
IsSmall z = nat_abs z ≤ SIZE_LIMIT

-- each number is greater than the one before it
abbrev pub IsAscending : List ℕ → Type 0
IsAscending [] = Unit {0}
IsAscending (x ∷ []) = Unit {0}
IsAscending (x ∷ y ∷ xs) = (x < y) × IsAscending (y ∷ xs)

abbrev pub IsTermWithin : Term → Type 0
IsTermWithin t = (t.at < INDEX_COUNT) × IsSmall t.by

abbrev pub AreTermsWithin : List Term → Type 0
AreTermsWithin terms = (length terms ≤ TERM_LIMIT) × All IsTermWithin terms

-- a set of states
abbrev pub IsSetWithin : List ℕ → Type 0
IsSetWithin set = (length set ≤ STATE_LIMIT) × All (λ q. q < STATE_INDEX_COUNT) set × IsAscending set

abbrev pub IsNodeWithin : Node → Type 0
IsNodeWithin (Linear terms) = AreTermsWithin terms
IsNodeWithin (Residue m terms) = (2 ≤ m) × (m ≤ MODULUS_LIMIT) × AreTermsWithin terms
IsNodeWithin (Split row) = AreTermsWithin row.terms × IsAscending (map (λ t. t.at) row.terms) × IsSmall row.constant
IsNodeWithin (Present p) = p < STATE_INDEX_COUNT
IsNodeWithin (Twin p) = p < STATE_INDEX_COUNT
IsNodeWithin (Trap set) = IsSetWithin set
IsNodeWithin (Siphon set) = IsSetWithin set
IsNodeWithin (Open f) = f < INDEX_COUNT
IsNodeWithin (First set) = IsSetWithin set

abbrev pub AreNodesWithin : List Node → Type 0
AreNodesWithin nodes = (length nodes ≤ NODE_LIMIT) × All IsNodeWithin nodes

pub record IsLayerWithin (layer : Layer) : Type 0 where
  pub move_count : length layer.moves ≤ MOVE_LIMIT
  pub moves : All (λ number. number < INDEX_COUNT) layer.moves
  pub weight_count : length layer.weights ≤ STATE_LIMIT
  pub weights : All IsSmall layer.weights

-- a leaf's proof over this many variables
pub record IsLeafProofWithin (variables : ℕ) (part : LeafProof) : Type 0 where
  pub pred : part.pred.variables ≡ variables
  pub layer_count : length part.layers ≤ LAYER_LIMIT
  pub layers : All IsLayerWithin part.layers
  pub on_true : AreNodesWithin part.on_true
  pub on_false : AreNodesWithin part.on_false

pub record IsGoalWithin (goal : Goal) : Type 0 where
  pub layer_count : length goal.layers ≤ LAYER_LIMIT
  pub layers : All IsLayerWithin goal.layers
  pub set_count : length goal.sets ≤ SET_LIMIT
  pub sets : All IsSetWithin goal.sets
  pub nodes : AreNodesWithin goal.nodes

-- a proof over this many variables for this many leaves
pub record IsProofWithin (variables leaves : ℕ) (proof : Proof) : Type 0 where
  pub one_each : length proof.leaves ≡ leaves
  pub parts : All (IsLeafProofWithin variables) proof.leaves
