-- Valid input is answered if nothing but memory can fail.
use Rattle.std.proofs.Common.{inl, inr, ℕ, List, Option, Some, refl, sym, subst, arith}
use Rattle.std.specs.Prelude.{◌≢◌}
use Rattle.pop_io.specs.Causes.{HasRisen}
use Rattle.tool_texts.specs.declared.output.Output.{Output}
use Rattle.tool_texts.specs.declared.status.Status.{Status}
use Rattle.tool_texts.specs.declared.status.Status.TheVariants.{Done, Usage, Refused, Rejected, Undecided, Differs, ReadFault, WriteFault, NoMemory}
use Rattle.pop_tool.specs.Answer.{Answer}
use Rattle.pop_tool.specs.Outcome.{Outcome, IsAnswer}
use Rattle.pop_tool.specs.Complete.{IsValidInput, IsCarriedOut}

-- a count that stays at 0 has not risen
pub still : HasRisen 0 0 → ⊥
still (inl more) = omega (arith, more)
still (inr last) = absurd cc

told : (words : List (List ℕ)) (input : List ℕ) (output : Output) → IsAnswer words (Some input) output → Answer words input output
told words input output is = subst (λ (i : List ℕ). Answer words i output) (sym is.1) is.2

pub not_refused : (words : List (List ℕ)) (input : List ℕ) (old new : Option (List ℕ)) (status : Status) → Outcome words (Some input) old new status → IsValidInput words input
    → (status ≢ Usage) × (status ≢ Refused)
not_refused words input old new Done is valid = ((λ e. absurd cc), (λ e. absurd cc))
not_refused words input old new Usage is valid = absurd ((valid is.output (told words input is.output is.answer)).0 is.ends)
not_refused words input old new Refused is valid = absurd ((valid is.output (told words input is.output is.answer)).1 is.ends)
not_refused words input old new Rejected is valid = ((λ e. absurd cc), (λ e. absurd cc))
not_refused words input old new Undecided is valid = ((λ e. absurd cc), (λ e. absurd cc))
not_refused words input old new Differs is valid = ((λ e. absurd cc), (λ e. absurd cc))
not_refused words input old new ReadFault is valid = ((λ e. absurd cc), (λ e. absurd cc))
not_refused words input old new WriteFault is valid = ((λ e. absurd cc), (λ e. absurd cc))
not_refused words input old new NoMemory is valid = ((λ e. absurd cc), (λ e. absurd cc))

pub carried_out : (status : Status) → status ≢ ReadFault → status ≢ WriteFault → (status ≢ Usage) × (status ≢ Refused) → IsCarriedOut status
carried_out Done read write valid = tt
carried_out Usage read write valid = valid.0 refl
carried_out Refused read write valid = valid.1 refl
carried_out Rejected read write valid = tt
carried_out Undecided read write valid = tt
carried_out Differs read write valid = tt
carried_out ReadFault read write valid = read refl
carried_out WriteFault read write valid = write refl
carried_out NoMemory read write valid = tt
