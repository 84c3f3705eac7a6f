-- How takes lead on from a crowd.
use Rattle.std.specs.Prelude.{◌≡◌, ℕ, ◌<◌, List, ◌++◌, length, Some, slice_get}
use Rattle.pop_leaf.specs.declared.leaf.Move.{Move}
use Rattle.pop_leaf.specs.LeafModel.{LeafModel}
use Rattle.pop_leaf.specs.NetModel.{NetModel, CrowdModel}
use Rattle.pop_net.specs.Lanes.{crowd_of, AreValid}
use Rattle.cert_base.specs.declared.proof.Proof.{Proof}
use Rattle.pop_settle.specs.declared.take.Take.{Take}
use Rattle.pop_settle.specs.declared.walk.Walk.{Walk}
use Rattle.pop_settle.specs.Settlement.{CanTake, Then, crowd_after_take, LeadsBy}

-- the crowd after a take, whose move is found by its number
abbrev pub TakesTo : NetModel → Take → CrowdModel → CrowdModel → Type 0
TakesTo net take before after =
    (leaf : LeafModel) (move : Move) → slice_get net.leaves take.leaf ≡ Some leaf
    → slice_get leaf.moves take.step ≡ Some move
    → after ≡ crowd_after_take take.leaf move take.a take.b before

-- no take can be made of a leaf before leaf i, and in leaf i none of a layer before layer j
abbrev pub IsQuietBefore : NetModel → Proof → CrowdModel → ℕ → ℕ → Type 0
IsQuietBefore net proof crowd i j =
    (layer place : ℕ) (take : Take) → CanTake net proof crowd layer place take → Then take.leaf i (layer < j) → ⊥

-- takes were added that lead from the one crowd to the other
pub record WalksOn (net : NetModel) (proof : Proof) (before after : Walk) : Type 0 where
  pub more : List Take
  pub added : after.takes.items ≡ before.takes.items ++ more
  pub leads : LeadsBy net proof (crowd_of net before.words.items) more (crowd_of net after.words.items)
  pub valid : AreValid net after.words.items
  pub agents : length after.words.items ≡ length before.words.items
