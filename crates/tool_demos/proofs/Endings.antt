-- `demo` doesn't end by a fault of reading.
use Rattle.std.proofs.Common.{ℕ, Result, sym, subst, ◌∙◌}
use Rattle.tool_texts.specs.declared.refusal.Refusal.{Refusal}
use Rattle.tool_texts.specs.declared.output.Output.{Output}
use Rattle.tool_bundles.proofs.OtherEndings.{IsOther}
use Rattle.tool_courses.proofs.Endings.{run_ending_other}
use Rattle.tool_demos.specs.Demo.{DemoGives}

pub demo_other : (number : ℕ) (given : Result Output Refusal) → DemoGives number given → IsOther given
demo_other number given is = subst IsOther (sym is.2) (λ e. run_ending_other is.1.pair (sym is.1.ending ∙ e))
