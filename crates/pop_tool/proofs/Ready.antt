-- What is ready is prepared by the rule that its output obeys.
use Rattle.std.proofs.Common.{◌≡◌, List, ℕ, Result, Ok, Err, sym, subst}
use Rattle.pop_words.specs.declared.command.Command.{Command}
use Rattle.tool_texts.specs.declared.refusal.Refusal.{Refusal}
use Rattle.pop_io.specs.declared.failure.Failure.TheVariants.{Fault, NoMemory}
use Rattle.tool_texts.specs.declared.output.Output.{Output}
use Rattle.tool_texts.specs.Steps.{GivesStep, Obeys, Stop}
use Rattle.tool_courses.specs.declared.prepared.Prepared.{Prepared}
use Rattle.tool_courses.specs.Prepared.{Prepares}
use Rattle.pop_tool.specs.Commands.{CommandGives, ready}
use Rattle.tool_courses.proofs.Leads.{text_leads}

pub ready_leads : (rule : Result Output Refusal → Type 0) (given : Result Output Stop) → Obeys rule (λ output. output) given → Prepares rule (ready given)
ready_leads rule (Ok output) is = text_leads (λ o. rule (Ok o)) output is
ready_leads rule (Err (Fault refusal)) is = is
ready_leads rule (Err NoMemory) is = tt

-- the same for a command, by its name
pub command_ready : (command name : Command) (lines : List (List ℕ)) (given : Result Output Stop) (prepared : Result Prepared Stop) → command ≡ name
    → Obeys (CommandGives name lines) (λ output. output) given → prepared ≡ ready given → Prepares (CommandGives command lines) prepared
command_ready command name lines given prepared named obeys is =
    subst (λ (c : Command). Prepares (CommandGives c lines) prepared) (sym named)
    (subst (λ (r : Result Prepared Stop). Prepares (CommandGives name lines) r) (sym is) (ready_leads (CommandGives name lines) given obeys))

-- a step that gives one output allows that one
pub step_obeys : (given : Result Output Stop) (step : Result Output Refusal) → GivesStep (λ output. output) given step → Obeys (λ allowed. allowed ≡ step) (λ output. output) given
step_obeys (Ok output) step is = sym is
step_obeys (Err (Fault refusal)) step is = sym is
step_obeys (Err NoMemory) step is = tt
