-- What the calls of a crowd promise.
use Rattle.std.specs.Prelude.{◌≡◌, ℕ, ◌≤◌, Bool, List, length, Result, IfOk}
use Rattle.pop_io.specs.declared.failure.Failure.{Failure}
use Rattle.pop_io.specs.Failures.{IfFault, OnlyMemory}
use Rattle.pop_leaf.specs.NetModel.{NetModel}
use Rattle.pop_leaf.specs.InputCrowd.{input_crowd}
use Rattle.pop_net.specs.Lanes.{crowd_of, AreValid}
use Rattle.pop_leaf.specs.Step.{Step}
use Rattle.pop_leaf.specs.Reachable.{ReachedWithin}
use Rattle.pop_leaf.specs.Reaction.{after_meeting}
use Rattle.pop_net.specs.declared.net.Word.{Word}
use Rattle.pop_crowd.specs.declared.crowd.Crowd.{Crowd}
use Rattle.pop_crowd.specs.declared.crowd.Meeting.{Meeting}
use Rattle.pop_crowd.specs.declared.fault.CrowdFault.{CrowdFault}
use Rattle.pop_crowd.specs.declared.limits.TheConstants.{AGENT_LEAST, AGENT_LIMIT}
use Rattle.pop_crowd.specs.Crowds.{RefusesCounts, input_size}
use Rattle.pop_crowd.specs.Replay.{changes, replay, change_count}

-- the input crowd of these counts, or why there is none
pub record IsCrowdOfCounts (net : NetModel) (counts : List ℕ) (result : Result Crowd (Failure CrowdFault)) : Type 0 where
  pub start : IfOk result (λ crowd. crowd_of net crowd ≡ input_crowd net counts)
  pub valid : IfOk result (AreValid net)
  pub size : IfOk result (λ crowd. (AGENT_LEAST ≤ length crowd) × (length crowd ≤ AGENT_LIMIT))
  pub refused : IfFault result (RefusesCounts net counts)
  pub accepts : AGENT_LEAST ≤ input_size net counts → input_size net counts ≤ AGENT_LIMIT → OnlyMemory result

-- these are the crowd's words
pub record AreWordsOf (crowd result : List Word) : Type 0 where
  pub words : result ≡ crowd
  pub some : AGENT_LEAST ≤ length result
  pub few : length result ≤ AGENT_LIMIT

-- how many agents a crowd has
pub record IsSizeOf (crowd : List Word) (result : ℕ) : Type 0 where
  pub count : result ≡ length crowd
  pub some : AGENT_LEAST ≤ result
  pub few : result ≤ AGENT_LIMIT

-- the agents a and b have reacted, and the answer says whether a tuple changed
pub record HasMet (net : NetModel) (a b : ℕ) (answer : Bool) (from to : List Word) : Type 0 where
  pub after : crowd_of net to ≡ after_meeting net a b (crowd_of net from)
  pub changed : answer ≡ changes net a b (crowd_of net from)
  pub valid : AreValid net to
  pub agents : length to ≡ length from
  -- a meeting is a step of the model
  pub step : Step net (crowd_of net from) (crowd_of net to)

-- the meetings were made, and the answer says how many changed a tuple
pub record HasReplayed (net : NetModel) (meetings : List Meeting) (answer : ℕ) (from to : List Word) : Type 0 where
  pub after : crowd_of net to ≡ replay net meetings (crowd_of net from)
  pub changed : answer ≡ change_count net meetings (crowd_of net from)
  pub valid : AreValid net to
  pub agents : length to ≡ length from
  -- the crowd afterwards is reached by at most as many steps as there are meetings
  pub reached : ReachedWithin (Step net) (length meetings) (crowd_of net from) (crowd_of net to)
