-- Agreement: all agents of a crowd have one output.
use Rattle.std.specs.Prelude.{◌≡◌, ◌≢◌, Bool, All, Contains}
use Rattle.pop_leaf.specs.NetModel.{NetModel, Tuple, CrowdModel, output_of}

abbrev pub AllOutput : NetModel → CrowdModel → Bool → Type 0
AllOutput net crowd value = All (λ t. output_of net t ≡ value) crowd

-- two agents have different outputs
pub record OutputsDiffer (net : NetModel) (crowd : CrowdModel) : Type 0 where
  pub one : Tuple
  pub other : Tuple
  pub one_there : Contains crowd one
  pub other_there : Contains crowd other
  pub differ : output_of net one ≢ output_of net other
