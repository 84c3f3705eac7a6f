-- A run doesn't end by a fault of reading.
use Rattle.std.proofs.Common.{ℕ, Option, Some, None}
use Rattle.std.specs.Prelude.{◌≢◌}
use Rattle.tool_texts.specs.declared.output.Ending.TheVariants.{ReadFault}
use Rattle.tool_courses.specs.RunOutput.{run_ending}

pub run_ending_other : (pair : Option (ℕ × ℕ)) → run_ending pair ≢ ReadFault
run_ending_other None e = absurd cc
run_ending_other (Some pair) e = absurd cc
