-- When counts give no crowd that can be run.
use Rattle.std.specs.Prelude.{◌≡◌, ℕ, ◌+◌, ◌&&◌, nat_le, List, sum, Option, Some}
use Rattle.pop_leaf.specs.FirstFault.{unless}
use Rattle.pop_leaf.specs.NetModel.{NetModel, number_of_helpers}
use Rattle.pop_crowd.specs.declared.limits.TheConstants.{AGENT_LEAST, AGENT_LIMIT}
use Rattle.pop_crowd.specs.declared.fault.CrowdFault.{CrowdFault}
use Rattle.pop_crowd.specs.declared.fault.CrowdFault.TheVariants as fault

-- how many agents the input crowd has, including the helpers
abbrev pub input_size : NetModel → List ℕ → ℕ
input_size net counts = sum counts + number_of_helpers net

abbrev pub size_fault : ℕ → Option CrowdFault
size_fault agents = unless (nat_le AGENT_LEAST agents && nat_le agents AGENT_LIMIT) (fault.Size agents)

-- the input crowd is too small or too large
abbrev pub RefusesCounts : NetModel → List ℕ → CrowdFault → Type 0
RefusesCounts net counts f = size_fault (input_size net counts) ≡ Some f
