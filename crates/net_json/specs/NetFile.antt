-- NetFile: which JSON value is the file of which net. Members may be in any order, and others may be present.
use Rattle.std.specs.Prelude.{◌≡◌, ◌⊎◌, ℕ, List, [], ◌∷◌, codes}
use Rattle.serde_json.specs.Data.{Data}
use Rattle.base_json.specs.Parts.{IsNumber, IsText, IsTruth, HasMember, IsList}
use Rattle.pop_leaf.specs.declared.leaf.Move.{Move}
use Rattle.pop_leaf.specs.declared.item.Item.{Item}
use Rattle.pop_leaf.specs.declared.item.Item.TheVariants.{Leaf, Not, And, Or}
use Rattle.net_json.specs.declared.format.TheConstants.{PLAIN_FORMAT, HELPER_FORMAT}
use Rattle.pop_leaf.specs.LeafModel.{LeafModel}
use Rattle.pop_leaf.specs.NetModel.{NetModel, IsNet}

-- a move is a list of its four states
abbrev pub IsMove : Move → Data → Type 0
IsMove t d = IsList IsNumber (t.p ∷ t.q ∷ t.r ∷ t.s ∷ []) d

-- an item of a combination is a leaf's number, or the word of an operator
abbrev pub IsItem : Item → Data → Type 0
IsItem (Leaf i) d = IsNumber i d
IsItem Not d = IsText (codes "not") d
IsItem And d = IsText (codes "and") d
IsItem Or d = IsText (codes "or") d

-- in format 1 a leaf has no helpers, and in format 2 it names them
abbrev pub AreHelpers : ℕ → List ℕ → Data → Type 0
AreHelpers format helpers d =
    ((format ≡ PLAIN_FORMAT) × (helpers ≡ []))
    ⊎ ((format ≡ HELPER_FORMAT) × HasMember (codes "helpers") (IsList IsNumber helpers) d)

pub record IsLeafFile (format : ℕ) (leaf : LeafModel) (d : Data) : Type 0 where
  pub states : HasMember (codes "states") (IsList IsText leaf.states) d
  pub moves : HasMember (codes "moves") (IsList IsMove leaf.moves) d
  pub input : HasMember (codes "input") (IsList IsNumber leaf.inputs) d
  pub output : HasMember (codes "output") (IsList IsTruth leaf.outputs) d
  pub helpers : AreHelpers format leaf.helpers d

pub record IsNetFile (net : NetModel) (d : Data) : Type 0 where
  pub number : ℕ
  pub format : HasMember (codes "format") (IsNumber number) d
  pub vars : HasMember (codes "vars") (IsList IsText net.variables) d
  pub leaves : HasMember (codes "leaves") (IsList (IsLeafFile number) net.leaves) d
  pub combine : HasMember (codes "combine") (IsList IsItem net.combine) d
  pub fits : IsNet net
