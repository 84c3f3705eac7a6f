-- PartFile: which JSON value is the file of which part of a proof. Members come in any order, and there may be others.
use Rattle.std.specs.Prelude.{◌≡◌, ℕ, Bool, true, false, ◌&&◌, not, List, [], codes, Option, Some, None}
use Rattle.serde_json.specs.Data.{Data}
use Rattle.serde_json.specs.Find.{get}
use Rattle.base_json.specs.Parts.{IsNumber, HasItems, AreBoth, HasMember, IsList}
use Rattle.cert_base.specs.declared.proof.Goal.{Goal}
use Rattle.cert_base.specs.declared.stable.LeafGoals.{LeafGoals}
use Rattle.cert_base.specs.declared.stable.StablePart.{StablePart}
use Rattle.cert_base.specs.declared.stable.StablePart.TheVariants.{Silent, Stable}
use Rattle.cert_json.specs.ProofFile.{IsPredText, IsNode, IsLayerFile, IsLeafProofFile}

-- the sets of a goal, none where the member is missing
abbrev pub AreSetsIn : List (List ℕ) → Option Data → Type 0
AreSetsIn sets None = sets ≡ []
AreSetsIn sets (Some d) = IsList (IsList IsNumber) sets d

pub record IsGoalFile (goal : Goal) (d : Data) : Type 0 where
  pub layers : HasMember (codes "layers") (IsList IsLayerFile goal.layers) d
  pub sets : AreSetsIn goal.sets (get (codes "sets") d)
  pub nodes : HasMember (codes "nodes") (IsList IsNode goal.nodes) d

-- the goal for true and the one for false are a list
pub record AreGoalsFile (names : List (List ℕ)) (aims : LeafGoals) (d : Data) : Type 0 where
  pub pred : HasMember (codes "pred") (IsPredText names aims.pred) d
  pub goals : HasMember (codes "goals") (HasItems (AreBoth (IsGoalFile aims.on_true) (IsGoalFile aims.on_false))) d

abbrev pub is_there : Option Data → Bool
is_there None = false
is_there (Some d) = true

-- whether the object of a leaf has goals in the place of layers
abbrev pub has_goals_in_place : Data → Bool
has_goals_in_place d = not (is_there (get (codes "layers") d)) && is_there (get (codes "goals") d)

-- a leaf's part of a proof over these names: with layers it is that of a leaf that falls silent
abbrev pub IsPartFile : List (List ℕ) → StablePart → Data → Type 0
IsPartFile names (Silent part) d = IsLeafProofFile names part d
IsPartFile names (Stable goals) d = (has_goals_in_place d ≡ true) × AreGoalsFile names goals d
