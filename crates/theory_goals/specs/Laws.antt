-- Laws: leaves that come to rest, each in its way, make a net that is stably right.
use Rattle.std.specs.Prelude.{ℕ, true, false, List}
use Rattle.pres_ast.specs.PredTree.{PredTree}
use Rattle.pop_leaf.specs.LeafModel.{LeafModel, IsLeaf}
use Rattle.pop_leaf.specs.NetModel.{NetModel, IsNet}
use Rattle.cert_base.specs.declared.layer.Layer.{Layer}
use Rattle.cert_base.specs.ProofBound.{layers_bound}
use Rattle.cert_base.specs.ValidLayers.{ValidLayers}
use Rattle.cert_base.specs.Ends.{EndsRight}
use Rattle.theory_goals.specs.StablyRight.{IsStablyRight}
use Rattle.theory_goals.specs.LeafGoals.{IsLeafGoal, LeafPart, parts_bound, HasLeafGoals}
use Rattle.theory_goals.specs.Kinds.{LeafKind, kind_bound, KindPart, IsAtRest, EndsRightWithin, ComesToRest}
use Rattle.theory_goals.specs.Kinds.{parts_of, ComeToRest}

-- goals of all leaves make the net stably right, within the sum of the leaves' bounds
abbrev pub LeafGoalsJoin : (ℕ → List ℕ → List ℕ → Type 0) → Type 0
LeafGoalsJoin Goals =
    (net : NetModel) (tree : PredTree) (parts : List LeafPart) → IsNet net → HasLeafGoals net tree parts Goals
    → IsStablyRight net tree (parts_bound parts)

-- leaves that fall silent, and others that come to sets which no step leaves, make a net stably right
pub record MixedLeavesAreRight : Type 0 where
  -- a leaf with valid layers and no wrong end falls silent within its layers' bound
  pub silent : (leaf : LeafModel) (layers : List Layer) (tree : PredTree) → IsLeaf leaf → ValidLayers leaf layers
      → EndsRight leaf tree true → EndsRight leaf tree false → EndsRightWithin leaf tree (layers_bound layers)
  -- a leaf that comes to rest in either way has goals: the crowds in which it has
  pub goals : (leaf : LeafModel) (tree : PredTree) (kind : LeafKind) → ComesToRest leaf tree kind
      → IsLeafGoal leaf tree (kind_bound kind) (IsAtRest leaf tree kind)
  -- so a net whose leaves do is stably right
  pub right : (net : NetModel) (tree : PredTree) (kinds : List KindPart) → IsNet net → ComeToRest net tree kinds
      → IsStablyRight net tree (parts_bound (parts_of kinds))
