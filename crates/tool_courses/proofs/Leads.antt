-- What is prepared leads to outputs of a rule.
use Rattle.tool_texts.specs.Steps.{Stop}
use Rattle.std.proofs.Common.{◌≡◌, Result, Ok, Err, sym, subst}
use Rattle.run_spec.specs.declared.kind.RunKind.TheVariants.{Whole}
use Rattle.tool_texts.specs.declared.refusal.Refusal.{Refusal}
use Rattle.pop_io.specs.declared.failure.Failure.TheVariants.{Fault, NoMemory}
use Rattle.tool_texts.specs.declared.output.Output.{Output}
use Rattle.tool_courses.specs.declared.prepared.PendingRun.{PendingRun}
use Rattle.tool_courses.specs.declared.prepared.Prepared.{Prepared}
use Rattle.tool_courses.specs.declared.prepared.Prepared.TheVariants.{Text, Alone, Threads, Demo}
use Rattle.tool_courses.specs.Prepared.{CanRun, IsOutputOfRun, NeedsNoThreads, LeadsTo, Prepares, IsPending}

pub text_leads : (rule : Output → Type 0) (output : Output) → rule output → LeadsTo rule (Text output)
text_leads rule output is = record { can = tt; allowed = λ other same. subst rule (sym same) is }

pub pending_leads : (rule : Output → Type 0) (run : PendingRun) → CanRun run → ((output : Output) → IsOutputOfRun run output → rule output)
    → (prepared : Prepared) → IsPending run prepared → LeadsTo rule prepared
pending_leads rule run can so (Text output) is = absurd is
pending_leads rule run can so (Alone other) is =
    subst (λ (r : PendingRun). LeadsTo rule (Alone r)) (sym is.0) (record { can = (can, is.1, is.2); allowed = so })
pending_leads rule run can so (Threads other) is =
    subst (λ (r : PendingRun). LeadsTo rule (Threads r)) (sym is.0) (record { can = can; allowed = so })
pending_leads rule run can so (Demo demo) is = absurd is

pub pending_plain : (run : PendingRun) (prepared : Prepared) → IsPending run prepared → run.setting.kind ≡ Whole → run.setting.spec.workers ≡ 1 → NeedsNoThreads prepared
pending_plain run (Text output) is whole one = absurd is
pending_plain run (Alone other) is whole one = tt
pending_plain run (Threads other) is whole one = is.1 whole one
pending_plain run (Demo demo) is whole one = absurd is

pub leads_wider : (rule wider : Output → Type 0) → ((output : Output) → rule output → wider output) → (prepared : Prepared) → LeadsTo rule prepared → LeadsTo wider prepared
leads_wider rule wider so prepared leads = record { can = leads.can; allowed = λ output is. so output (leads.allowed output is) }

-- what one rule allows is allowed by a wider one
pub prepares_wider : (rule wider : Result Output Refusal → Type 0) → ((given : Result Output Refusal) → rule given → wider given)
    → (r : Result Prepared Stop) → Prepares rule r → Prepares wider r
prepares_wider rule wider so (Ok prepared) is = leads_wider (λ o. rule (Ok o)) (λ o. wider (Ok o)) (λ o. so (Ok o)) prepared is
prepares_wider rule wider so (Err (Fault refusal)) is = so (Err refusal) is
prepares_wider rule wider so (Err NoMemory) is = tt
