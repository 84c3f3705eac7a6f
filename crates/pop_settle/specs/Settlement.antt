-- Settlement: the takes that lead by a proof's layers to a crowd in which none can be made.
use Rattle.std.specs.Prelude.{◌≡◌, ◌≢◌, ◌⊎◌, ℕ, ◌<◌, false, List, [], ◌∷◌, map, Some, slice_get, slice_set}
use Rattle.std.specs.Prelude.{slice_index_or}
use Rattle.pop_leaf.specs.declared.leaf.Move.{Move}
use Rattle.pop_leaf.specs.LeafModel.{LeafModel, silent_move}
use Rattle.pop_leaf.specs.NetModel.{NetModel, Tuple, CrowdModel, state_of}
use Rattle.cert_base.specs.declared.layer.Layer.{Layer}
use Rattle.cert_base.specs.declared.proof.Proof.{Proof}
use Rattle.cert_base.specs.declared.proof.LeafProof.{LeafProof}
use Rattle.pop_settle.specs.declared.take.Take.{Take}

-- the agents' states in leaf i
abbrev pub states_in : ℕ → CrowdModel → List ℕ
states_in i crowd = map (λ tuple. state_of tuple i) crowd

-- a and b are different agents, and hold the first and the second state of a non-silent move
pub record CanMake (states : List ℕ) (t : Move) (a b : ℕ) : Type 0 where
  pub non_silent : silent_move t ≡ false
  pub different : a ≢ b
  pub first : slice_get states a ≡ Some t.p
  pub second : slice_get states b ≡ Some t.q

-- the take can be made: its move stands at this place of this layer's list, and its agents can make it
pub record CanTake (net : NetModel) (proof : Proof) (crowd : CrowdModel) (layer place : ℕ) (take : Take) : Type 0 where
  pub leaf : LeafModel
  pub part : LeafProof
  pub list : Layer
  pub move : Move
  pub leaf_is : slice_get net.leaves take.leaf ≡ Some leaf
  pub part_is : slice_get proof.leaves take.leaf ≡ Some part
  pub layer_is : slice_get part.layers layer ≡ Some list
  pub step_is : slice_get list.moves place ≡ Some take.step
  pub move_is : slice_get leaf.moves take.step ≡ Some move
  pub made : CanMake (states_in take.leaf crowd) move take.a take.b

-- the tuple of an agent, with another state in leaf i
abbrev pub tuple_with_state : ℕ → ℕ → ℕ → CrowdModel → Tuple
tuple_with_state i agent state crowd = slice_set (slice_index_or crowd agent []) i state

-- a gets the state r and b the state s in leaf i, and nothing else changes
abbrev pub crowd_after_take : ℕ → Move → ℕ → ℕ → CrowdModel → CrowdModel
crowd_after_take i t a b crowd =
    slice_set (slice_set crowd a (tuple_with_state i a t.r crowd)) b (tuple_with_state i b t.s crowd)

-- m comes before n, or they are the same and what is compared next decides
abbrev pub Then : ℕ → ℕ → Type 0 → Type 0
Then m n next = (m < n) ⊎ ((m ≡ n) × next)

-- takes are compared by leaf, layer, place, a and b, in this order
abbrev pub IsBefore : ℕ → ℕ → Take → ℕ → ℕ → Take → Type 0
IsBefore layer place take layer' place' take' =
    Then take.leaf take'.leaf (Then layer layer' (Then place place' (Then take.a take'.a (take.b < take'.b))))

-- the take is the least that can be made
pub record IsNext (net : NetModel) (proof : Proof) (crowd : CrowdModel) (take : Take) : Type 0 where
  pub layer : ℕ
  pub place : ℕ
  pub can : CanTake net proof crowd layer place take
  pub least : (layer' place' : ℕ) (other : Take) → CanTake net proof crowd layer' place' other
      → IsBefore layer' place' other layer place take → ⊥

-- takes lead from a crowd to another one, and each is the least that can be made there
abbrev pub LeadsBy : NetModel → Proof → CrowdModel → List Take → CrowdModel → Type 0
LeadsBy net proof crowd [] end = end ≡ crowd
LeadsBy net proof crowd (take ∷ takes) end =
    (next : IsNext net proof crowd take)
    × LeadsBy net proof (crowd_after_take take.leaf next.can.move take.a take.b crowd) takes end

-- no take can be made after the last one
pub record IsSettlement (net : NetModel) (proof : Proof) (crowd : CrowdModel) (takes : List Take) (end : CrowdModel)
    : Type 0 where
  pub leads : LeadsBy net proof crowd takes end
  pub ended : (layer place : ℕ) (take : Take) → CanTake net proof end layer place take → ⊥
