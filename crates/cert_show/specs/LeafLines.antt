-- The lines of a leaf, and of its layers or goals.
use Rattle.std.specs.Prelude.{ℕ, Bool, true, false, if◌then◌else◌, List, [], ◌∷◌, ◌++◌, length, codes, decimal, map}
use Rattle.std.specs.Prelude.{Option, Some, None, slice_get, slice_index_or}
use Rattle.std.specs.Fmt.{signed_decimal}
use Rattle.std.specs.List.{flat_map}
use Rattle.pres_read.specs.Canonical.{tree_text}
use Rattle.pop_leaf.specs.declared.leaf.Move.{Move}
use Rattle.pop_leaf.specs.LeafModel.{LeafModel}
use Rattle.cert_base.specs.declared.layer.Layer.{Layer}
use Rattle.cert_base.specs.declared.proof.Goal.{Goal}
use Rattle.cert_base.specs.declared.stable.StablePart.{StablePart}
use Rattle.cert_base.specs.declared.stable.StablePart.TheVariants.{Silent, Stable}
use Rattle.cert_base.specs.StableProof.{pred_of_part}
use Rattle.cert_base.specs.ValidLayers.{weight_at}
use Rattle.cert_show.specs.Lines.{below, each, spaced, name_at, named, move_text}

-- a variable, and the state in which its agents start
abbrev pub start_text : List (List ℕ) → LeafModel → ℕ → List ℕ
start_text names leaf i = named (name_at names i) (name_at leaf.states (slice_index_or leaf.inputs i 0))

-- the state of a helper
abbrev pub helper_text : LeafModel → ℕ → List ℕ
helper_text leaf i = name_at leaf.states (slice_index_or leaf.helpers i 0)

-- the line of the helpers, if there are any
abbrev pub helper_lines : LeafModel → List ℕ → List (List ℕ)
helper_lines leaf [] = []
helper_lines leaf (q ∷ helpers) = (codes "helpers" ++ each (length leaf.helpers) (λ i. spaced (helper_text leaf i))) ∷ []

-- the lines of states, inputs and helpers
abbrev pub head_lines : List (List ℕ) → LeafModel → List (List ℕ)
head_lines names leaf =
    (codes "states" ++ each (length leaf.states) (λ q. spaced (name_at leaf.states q)))
    ∷ (codes "inputs" ++ each (length leaf.inputs) (λ i. spaced (start_text names leaf i)))
    ∷ helper_lines leaf leaf.helpers

-- the name of a state behind a blank, if its output is this answer
abbrev pub word_if : Bool → LeafModel → ℕ → List ℕ
word_if true leaf q = if slice_index_or leaf.outputs q false then spaced (name_at leaf.states q) else []
word_if false leaf q = if slice_index_or leaf.outputs q false then [] else spaced (name_at leaf.states q)

-- the states that output true, and those that output false
abbrev pub answer_lines : LeafModel → List (List ℕ)
answer_lines leaf =
    (codes "yes" ++ each (length leaf.states) (word_if true leaf))
    ∷ (codes "no" ++ each (length leaf.states) (word_if false leaf))
    ∷ []

abbrev pub move_line : LeafModel → Move → List ℕ
move_line leaf t = codes "move " ++ move_text leaf.states t

-- the line of a move that a layer lists by its number
abbrev pub listed_line : LeafModel → ℕ → List ℕ
listed_line leaf number =
    codes "lists "
    ++ move_text leaf.states (slice_index_or leaf.moves number (record { p = 0; q = 0; r = 0; s = 0 }))

abbrev pub weight_text : LeafModel → Layer → ℕ → List ℕ
weight_text leaf layer q = named (name_at leaf.states q) (signed_decimal (weight_at layer.weights q))

-- a layer with its number: the weights of the states, and the moves that it lists
abbrev pub layer_lines : LeafModel → ℕ → Option Layer → List (List ℕ)
layer_lines leaf number None = []
layer_lines leaf number (Some layer) =
    (codes "layer " ++ decimal number)
    ∷ (codes "weights" ++ each (length leaf.states) (λ q. spaced (weight_text leaf layer q)))
    ∷ map (listed_line leaf) layer.moves

-- all layers of a leaf, numbered from 0
abbrev pub all_layer_lines : LeafModel → List Layer → List (List ℕ)
all_layer_lines leaf layers = flat_map (λ i. layer_lines leaf i (slice_get layers i)) (below (length layers))

-- the states of a set
abbrev pub set_line : LeafModel → List ℕ → List ℕ
set_line leaf set = codes "set" ++ each (length set) (λ i. spaced (name_at leaf.states (slice_index_or set i 0)))

abbrev pub goal_title : Bool → List ℕ
goal_title true = codes "goal true"
goal_title false = codes "goal false"

-- what is to be reached from the inputs with this value: the layers, and the sets that the file lists
abbrev pub goal_lines : LeafModel → Bool → Goal → List (List ℕ)
goal_lines leaf value goal = goal_title value ∷ (all_layer_lines leaf goal.layers ++ map (set_line leaf) goal.sets)

-- the layers of a leaf that falls silent, or both goals
abbrev pub part_lines : LeafModel → StablePart → List (List ℕ)
part_lines leaf (Silent part) = all_layer_lines leaf part.layers
part_lines leaf (Stable goals) = goal_lines leaf true goals.on_true ++ goal_lines leaf false goals.on_false

-- a leaf with its number and its proof: its predicate, states, inputs, helpers, outputs, moves, and layers or goals
abbrev pub leaf_lines : List (List ℕ) → ℕ → Option LeafModel → Option StablePart → List (List ℕ)
leaf_lines names number None part = []
leaf_lines names number (Some leaf) None = []
leaf_lines names number (Some leaf) (Some part) =
    (codes "leaf " ++ decimal number)
    ∷ (codes "computes " ++ tree_text names (pred_of_part part).tree)
    ∷ (head_lines names leaf
    ++ (answer_lines leaf ++ (map (move_line leaf) leaf.moves ++ part_lines leaf part)))
