-- Chosen: the layers that an input chooses from a proof in which leaves may have goals.
use Rattle.std.specs.Prelude.{ℕ, Bool, List, [], map}
use Rattle.pres_ast.specs.PredicateValue.{predicate_value}
use Rattle.cert_base.specs.declared.layer.Layer.{Layer}
use Rattle.cert_base.specs.declared.proof.LeafProof.{LeafProof}
use Rattle.cert_base.specs.declared.proof.Proof.{Proof}
use Rattle.cert_base.specs.declared.stable.LeafGoals.{LeafGoals}
use Rattle.cert_base.specs.declared.stable.StablePart.{StablePart}
use Rattle.cert_base.specs.declared.stable.StablePart.TheVariants.{Silent, Stable}
use Rattle.cert_base.specs.declared.stable.StableProof.{StableProof}
use Rattle.cert_base.specs.StableProof.{pred_of_part}
use Rattle.cert_goals.specs.GoalLaws.{goal_for}

-- the layers of the goal for this value
abbrev pub layers_for : LeafGoals → Bool → List Layer
layers_for goals value = (goal_for goals.on_true goals.on_false value).layers

-- a leaf with goals: the layers for its predicate's value at the counts; one that falls silent: its layers
abbrev pub layers_at : List ℕ → StablePart → List Layer
layers_at counts (Silent part) = part.layers
layers_at counts (Stable goals) = layers_for goals (predicate_value goals.pred.tree counts)

abbrev pub part_at : List ℕ → StablePart → LeafProof
part_at counts part =
    record { pred = pred_of_part part; layers = layers_at counts part; on_true = []; on_false = [] }

-- these layers for each leaf, in a proof without trees
abbrev pub proof_at : List ℕ → StableProof → Proof
proof_at counts proof = record { leaves = map (part_at counts) proof.leaves }
