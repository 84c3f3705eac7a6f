-- What is written for the fault of a check.
use Rattle.std.specs.Prelude.{◌≡◌, Result, Ok}
use Rattle.pop_io.specs.declared.failure.Failure.{Failure}
use Rattle.pop_io.specs.declared.failure.Failure.TheVariants.{Fault, NoMemory}
use Rattle.pop_checker.specs.declared.stable_fault.StableRejected.{StableRejected}
use Rattle.tool_texts.specs.declared.refusal.Refusal.{Refusal}
use Rattle.tool_texts.specs.declared.output.Output.{Output}
use Rattle.tool_rejections.specs.Rejections.{rejection_output}

-- the rejection that a check found is reported
abbrev pub TellsRejection : Failure StableRejected → Result Output Refusal → Type 0
TellsRejection (Fault rejected) given = given ≡ Ok (rejection_output rejected)
TellsRejection NoMemory given = ⊥
