-- What `demo` makes of a number: the summary of a run of its case.
use Rattle.std.specs.Prelude.{◌≡◌, ℕ, ◌<◌, ◌^◌, length, Result, Ok}
use Rattle.pres_ast.specs.PredModel.{PredModel}
use Rattle.pop_leaf.specs.NetModel.{NetModel, number_of_helpers}
use Rattle.pop_leaf.specs.InputCrowd.{IsInput, input_crowd}
use Rattle.pop_net.specs.Lanes.{crowd_of}
use Rattle.run_picks.specs.Run.{IsRun, joined}
use Rattle.run_picks.specs.declared.alone.RunEnd.{RunEnd}
use Rattle.pop_demo.specs.DemoCase.{names_of_demo, demo_spec}
use Rattle.cert_base.specs.declared.proof.Proof.{Proof}
use Rattle.cert_base.specs.ProofLimits.{IsProofWithin}
use Rattle.cert_base.specs.ValidProof.{ValidProof}
use Rattle.comp_net.specs.BuiltNet.{built_net}
use Rattle.tool_texts.specs.declared.refusal.Refusal.{Refusal}
use Rattle.tool_texts.specs.declared.output.Output.{Output}
use Rattle.tool_bundles.specs.LastPair.{IsLast}
use Rattle.tool_courses.specs.declared.prepared.Case.{Case}
use Rattle.tool_courses.specs.RunOutput.{open_pair}
use Rattle.tool_courses.specs.DemoOutput.{IsDemoOutput}

-- what `demo` gives; its number is within the limit
abbrev pub DemoGives : ℕ → Result Output Refusal → Type 0
DemoGives number given = (output : Output) × IsDemoOutput number output × (given ≡ Ok output)

-- the net that is built of a predicate, and a valid proof within the limits of its file
pub record IsBuiltNet (pred : PredModel) (both : NetModel × Proof) : Type 0 where
  pub net : both.0 ≡ built_net names_of_demo pred.tree
  pub valid : ValidProof both.0 pred both.1
  pub within : IsProofWithin pred.variables (length both.0.leaves) both.1

-- a run of the case that was made
pub record IsRunOfCase (case : Case) (ran : RunEnd) : Type 0 where
  pub input : IsInput (length case.checked.net.variables) (number_of_helpers case.checked.net) case.counts
  pub run : IsRun case.checked.net (input_crowd case.checked.net case.counts) (demo_spec case.number) ran.rounds
      (crowd_of case.checked.net ran.crowd)
  pub last : IsLast case.checked.net (crowd_of case.checked.net ran.crowd) (open_pair ran.end)
  pub agents : length ran.crowd ≡ length (input_crowd case.checked.net case.counts)
  pub few : length (joined ran.rounds) < 2 ^ 64
