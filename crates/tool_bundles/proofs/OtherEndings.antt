-- An output that doesn't end by a fault of reading.
use Rattle.std.proofs.Common.{Result, Err}
use Rattle.std.specs.Prelude.{◌≢◌}
use Rattle.tool_texts.specs.declared.refusal.Refusal.{Refusal}
use Rattle.tool_texts.specs.declared.output.Output.{Output}
use Rattle.tool_texts.specs.declared.output.Ending.TheVariants.{ReadFault}
use Rattle.tool_texts.specs.Refusals.{output_for}

abbrev pub IsOther : Result Output Refusal → Type 0
IsOther given = (output_for given).ending ≢ ReadFault

pub refused : (r : Refusal) → IsOther (Err r)
refused r e = absurd cc
