-- A proof that is not valid is reported as rejected.
use Rattle.std.proofs.Common.{Result, Ok, sym, subst}
use Rattle.pop_io.specs.declared.failure.Failure.{Failure}
use Rattle.pop_io.specs.declared.failure.Failure.TheVariants.{Fault, NoMemory}
use Rattle.pop_io.specs.Failures.{Names}
use Rattle.cert_json.specs.declared.stable.StableBundle.{StableBundle}
use Rattle.pop_checker.specs.declared.stable_fault.StableRejected.{StableRejected}
use Rattle.pop_checker.specs.StableRejections.{IsStableRejected}
use Rattle.tool_texts.specs.declared.refusal.Refusal.{Refusal}
use Rattle.tool_texts.specs.declared.output.Output.{Output}
use Rattle.tool_rejections.specs.Rejections.{rejection_output}
use Rattle.tool_texts.specs.Steps.{Obeys, Stop}
use Rattle.tool_texts.proofs.Goes.{obeys_wider}
use Rattle.tool_rejections.specs.Told.{TellsRejection}

pub rejected_obeys : (bundle : StableBundle) (rule : Result Output Refusal → Type 0) → ((rejected : StableRejected) → IsStableRejected bundle.net bundle.pred bundle.proof rejected → rule (Ok (rejection_output rejected)))
    → (fault : Failure StableRejected) → Names (IsStableRejected bundle.net bundle.pred bundle.proof) fault → (r : Result Output Stop) → Obeys (TellsRejection fault) (λ (o : Output). o) r → Obeys rule (λ (o : Output). o) r
rejected_obeys bundle rule so (Fault rejected) is r tells =
    obeys_wider (TellsRejection (Fault rejected)) rule (λ given same. subst rule (sym same) (so rejected is)) (λ (o : Output). o) r tells
rejected_obeys bundle rule so NoMemory is r tells = obeys_wider (TellsRejection NoMemory) rule (λ given none. absurd none) (λ (o : Output). o) r tells
