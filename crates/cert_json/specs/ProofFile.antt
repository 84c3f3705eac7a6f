-- ProofFile: which JSON value is the file of which proof. Members come in any order, and there may be others.
use Rattle.std.specs.Prelude.{ℕ, List, codes}
use Rattle.serde_json.specs.Data.{Data}
use Rattle.base_json.specs.Parts.{IsNumber, IsInteger, IsText, HasItems, IsOnly}
use Rattle.base_json.specs.Parts.{AreBoth, BeginsWith, HasMember, IsList}
use Rattle.pres_ast.specs.PredModel.{PredModel}
use Rattle.pres_read.specs.PredText.{IsTextOf}
use Rattle.cert_base.specs.declared.fact.Term.{Term}
use Rattle.cert_base.specs.declared.layer.Layer.{Layer}
use Rattle.cert_base.specs.declared.node.Node.{Node}
use Rattle.cert_base.specs.declared.node.Node.TheVariants.{Linear, Residue, Split, Present, Twin, Trap, Siphon, Open}
use Rattle.cert_base.specs.declared.node.Node.TheVariants.{First}
use Rattle.cert_base.specs.declared.proof.Proof.{Proof}
use Rattle.cert_base.specs.declared.proof.LeafProof.{LeafProof}

-- a text that means this predicate over these names
abbrev pub IsPredText : List (List ℕ) → PredModel → Data → Type 0
IsPredText names p d = (s : List ℕ) × IsText s d × IsTextOf names s p

-- a term is a list of its number and its coefficient or multiplier
abbrev pub IsTerm : Term → Data → Type 0
IsTerm t d = HasItems (AreBoth (IsNumber t.at) (IsInteger t.by)) d

-- the items of a node: its word, and its parts
abbrev pub AreParts : Node → List Data → Type 0
AreParts (Linear terms) = BeginsWith (codes "lin") (IsOnly (IsList IsTerm terms))
AreParts (Residue m terms) = BeginsWith (codes "residue") (AreBoth (IsNumber m) (IsList IsTerm terms))
AreParts (Split row) = BeginsWith (codes "split") (AreBoth (IsList IsTerm row.terms) (IsInteger row.constant))
AreParts (Present p) = BeginsWith (codes "present") (IsOnly (IsNumber p))
AreParts (Twin p) = BeginsWith (codes "twin") (IsOnly (IsNumber p))
AreParts (Trap set) = BeginsWith (codes "trap") (IsOnly (IsList IsNumber set))
AreParts (Siphon set) = BeginsWith (codes "siphon") (IsOnly (IsList IsNumber set))
AreParts (Open f) = BeginsWith (codes "open") (IsOnly (IsNumber f))
AreParts (First set) = BeginsWith (codes "first") (IsOnly (IsList IsNumber set))

abbrev pub IsNode : Node → Data → Type 0
IsNode node d = HasItems (AreParts node) d

pub record IsLayerFile (layer : Layer) (d : Data) : Type 0 where
  pub moves : HasMember (codes "moves") (IsList IsNumber layer.moves) d
  pub weights : HasMember (codes "weights") (IsList IsInteger layer.weights) d

pub record IsLeafProofFile (names : List (List ℕ)) (part : LeafProof) (d : Data) : Type 0 where
  pub pred : HasMember (codes "pred") (IsPredText names part.pred) d
  pub layers : HasMember (codes "layers") (IsList IsLayerFile part.layers) d
  pub on_true : HasMember (codes "true") (IsList IsNode part.on_true) d
  pub on_false : HasMember (codes "false") (IsList IsNode part.on_false) d

-- the member `proof` of a bundle over these names and for this many leaves
abbrev pub IsProofFile : List (List ℕ) → Proof → Data → Type 0
IsProofFile names proof d = HasMember (codes "proof") (IsList (IsLeafProofFile names) proof.leaves) d
