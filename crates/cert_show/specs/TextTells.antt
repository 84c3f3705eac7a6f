-- What a text of `show` tells: the net, the predicate, and of the proof all but its trees and the numbers of its moves.
use Rattle.std.specs.Prelude.{◌≡◌, ◌⊎◌, ℕ, ◌<◌, ◌^◌, List, [], ◌∷◌, ℤ, nat_abs, length, map, All}
use Rattle.std.specs.Prelude.{slice_index_or}
use Rattle.std.proofs.Common.{inl, inr}
use Rattle.pres_ast.specs.PredModel.{PredModel, IsPred}
use Rattle.pop_leaf.specs.declared.leaf.Move.{Move}
use Rattle.pop_leaf.specs.LeafModel.{LeafModel}
use Rattle.pop_leaf.specs.NetModel.{NetModel, IsNet}
use Rattle.cert_base.specs.declared.layer.Layer.{Layer}
use Rattle.cert_base.specs.declared.proof.Goal.{Goal}
use Rattle.cert_base.specs.declared.stable.StablePart.{StablePart}
use Rattle.cert_base.specs.declared.stable.StablePart.TheVariants.{Silent, Stable}
use Rattle.cert_base.specs.declared.stable.StableProof.{StableProof}
use Rattle.cert_base.specs.StableProof.{pred_of_part}
use Rattle.cert_show.specs.Lines.{text_of}
use Rattle.cert_show.specs.Shown.{shown_of}
use Rattle.cert_show.specs.Showable.{IsProofOf}

-- a number of 64 bits
abbrev pub IsWeight : ℤ → Type 0
IsWeight weight = nat_abs weight < 2 ^ 63

abbrev pub HasWeights : Layer → Type 0
HasWeights layer = All IsWeight layer.weights

abbrev pub AreWeighted : StablePart → Type 0
AreWeighted (Silent part) = All HasWeights part.layers
AreWeighted (Stable goals) = All HasWeights goals.on_true.layers × All HasWeights goals.on_false.layers

pub record IsPartWritable (variables : ℕ) (part : StablePart) : Type 0 where
  pub pred : IsPred variables (pred_of_part part).tree
  pub weights : AreWeighted part

-- a net, a predicate over its variables, and a proof with its numbers, all within the limits of a bundle's file
pub record IsShowable (net : NetModel) (pred : PredModel) (proof : StableProof) : Type 0 where
  pub formed : IsNet net
  pub variables : pred.variables ≡ length net.variables
  pub limits : IsPred (length net.variables) pred.tree
  pub own : IsProofOf net proof
  pub parts : All (IsPartWritable (length net.variables)) proof.leaves

-- a layer without the numbers of its moves: the weights, and the moves that it lists
abbrev pub LayerSeen : Type 0
LayerSeen = List ℤ × List Move

abbrev pub move_with : LeafModel → ℕ → Move
move_with leaf number = slice_index_or leaf.moves number (record { p = 0; q = 0; r = 0; s = 0 })

abbrev pub layer_seen : LeafModel → Layer → LayerSeen
layer_seen leaf layer = (layer.weights, map (move_with leaf) layer.moves)

-- a goal without its tree: the layers, and the sets that the file lists
abbrev pub GoalSeen : Type 0
GoalSeen = List LayerSeen × List (List ℕ)

abbrev pub goal_seen : LeafModel → Goal → GoalSeen
goal_seen leaf goal = (map (layer_seen leaf) goal.layers, goal.sets)

-- a leaf's part of a proof without its trees: the predicate, and the layers or both goals
abbrev pub PartSeen : Type 0
PartSeen = PredModel × (List LayerSeen ⊎ (GoalSeen × GoalSeen))

abbrev pub own_seen : LeafModel → StablePart → List LayerSeen ⊎ (GoalSeen × GoalSeen)
own_seen leaf (Silent part) = inl (map (layer_seen leaf) part.layers)
own_seen leaf (Stable goals) = inr (goal_seen leaf goals.on_true, goal_seen leaf goals.on_false)

abbrev pub part_seen : LeafModel → StablePart → PartSeen
part_seen leaf part = (pred_of_part part, own_seen leaf part)

abbrev pub parts_seen : List LeafModel → List StablePart → List PartSeen
parts_seen [] parts = []
parts_seen (leaf ∷ leaves) [] = []
parts_seen (leaf ∷ leaves) (part ∷ parts) = part_seen leaf part ∷ parts_seen leaves parts

-- the same net and predicate, and proofs that differ at most in trees and in the numbers of equal moves
pub record AreSeenAlike (net other : NetModel) (pred wanted : PredModel) (proof given : StableProof) : Type 0 where
  pub same_net : net ≡ other
  pub same_pred : pred ≡ wanted
  pub same_parts : parts_seen net.leaves proof.leaves ≡ parts_seen other.leaves given.leaves

-- one text has one meaning
abbrev pub TextTells : Type 0
TextTells =
    (net other : NetModel) (pred wanted : PredModel) (proof given : StableProof) → IsShowable net pred proof
    → IsShowable other wanted given → text_of (shown_of net pred proof) ≡ text_of (shown_of other wanted given)
    → AreSeenAlike net other pred wanted proof given
