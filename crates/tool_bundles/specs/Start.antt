-- What a net line and a crowd line give: a net, and the crowd in which it starts.
use Rattle.std.specs.Prelude.{◌≡◌, ℕ, ◌&&◌, nat_le, List, [], length, Bool}
use Rattle.std.specs.Prelude.{Option, Some, None, Result, Ok, Err, if◌then◌else◌}
use Rattle.serde_json.specs.Data.{Data}
use Rattle.base_json.specs.Faults.{Fault}
use Rattle.net_json.specs.Examined.{net_at}
use Rattle.pop_leaf.specs.NetModel.{NetModel, CrowdModel, number_of_helpers}
use Rattle.pop_leaf.specs.InputCrowd.{IsInput, input_crowd}
use Rattle.pop_net.specs.Lanes.{crowd_of, AreValid}
use Rattle.pop_crowd.specs.Crowds.{input_size}
use Rattle.pop_crowd.specs.declared.limits.TheConstants.{AGENT_LEAST, AGENT_LIMIT}
use Rattle.pop_words.specs.Counts.{counts_of}
use Rattle.tool_texts.specs.declared.refusal.Refusal.{Refusal}
use Rattle.tool_texts.specs.declared.refusal.Refusal.TheVariants.{NotJson, Format, Size}
use Rattle.tool_texts.specs.Steps.{◌>>=◌}
use Rattle.tool_bundles.specs.declared.start.Start.{Start}
use Rattle.tool_bundles.specs.Named.{counted}

abbrev pub formatted : {A : Type 0} → Result A Fault → Result A Refusal
formatted (Ok value) = Ok value
formatted (Err fault) = Err (Format fault.path fault.why)

-- the net of a line that is this value, or no JSON
abbrev pub net_in : Option Data → Result NetModel Refusal
net_in None = Err NotJson
net_in (Some d) = formatted (net_at [] d)

-- a crowd that is run has neither too few agents nor too many, helpers included
abbrev pub is_size : ℕ → Bool
is_size agents = nat_le AGENT_LEAST agents && nat_le agents AGENT_LIMIT

abbrev pub sized : NetModel → List ℕ → Result (List ℕ) Refusal
sized net counts = if is_size (input_size net counts) then Ok counts else Err (Size (input_size net counts))

-- the counts of a crowd line, for a crowd that is run
unfoldable pub fitting_in : NetModel → List ℕ → Result (List ℕ) Refusal
fitting_in net line = counted (counts_of net.variables line) >>= sized net

-- the input crowd of a crowd line
abbrev pub crowd_in : NetModel → List ℕ → Result CrowdModel Refusal
crowd_in net line = fitting_in net line >>= λ counts. Ok (input_crowd net counts)

-- the net, and the crowd in which it starts
unfoldable pub start_in : Option Data → List ℕ → Result (NetModel × CrowdModel) Refusal
start_in value line = do
  net ← net_in value
  start ← crowd_in net line
  Ok (net, start)

-- the counts are an input of the net, and the crowd is the input crowd
pub record IsStart (net : NetModel) (start : Start) : Type 0 where
  pub input : IsInput (length net.variables) (number_of_helpers net) start.counts
  pub crowd : crowd_of net start.crowd ≡ input_crowd net start.counts
  pub valid : AreValid net start.crowd
