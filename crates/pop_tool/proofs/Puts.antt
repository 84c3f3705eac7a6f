-- What a sink did with an output is the call's outcome.
use Rattle.std.proofs.Common.{◌≡◌, inl, inr, ℕ, List, Option, Some, Result, Ok, Err, refl, sym, ap, subst, ◌∙◌}
use Rattle.std.specs.Prelude.{◌≢◌, false, IfOk, MatchResult}
use Rattle.std.specs.Io.KnownBytes.{Appends, Keeps}
use Rattle.std.proofs.lemmas.Result.{IfOk-weaker}
use Rattle.pop_io.specs.Causes.{HasRisen}
use Rattle.tool_texts.specs.declared.output.Output.{Output}
use Rattle.tool_texts.specs.declared.output.Ending.{Ending}
use Rattle.tool_texts.specs.declared.output.Ending.TheVariants as ending
use Rattle.tool_texts.specs.declared.status.Status.{Status}
use Rattle.tool_texts.specs.declared.status.Status.TheVariants.{Usage, Refused, ReadFault, WriteFault, NoMemory}
use Rattle.tool_texts.specs.Statuses.{status_of}
use Rattle.pop_tool.specs.Outcome.{IsAnswer, IsReply, Outcome, IsAnswered}
use Rattle.pop_tool.specs.Source.{HasSuffix, IsReadToEnd, words_read}
use Rattle.pop_tool.specs.Written.{ReadFailed, IsRightOutput, IsWritten}
use Rattle.pop_tool.specs.Complete.{IsValidInput}
use Rattle.pop_tool.specs.Call.{AcceptsReplies, IsCall}
use Rattle.pop_tool.proofs.Complete.{not_refused, carried_out}
use Rattle.pop_tool.proofs.Headlines.{outcome_says}

no_write_fault : (end : Ending) → status_of end ≡ WriteFault → ⊥
no_write_fault ending.Done e = absurd cc
no_write_fault ending.Usage e = absurd cc
no_write_fault ending.Refused e = absurd cc
no_write_fault ending.Rejected e = absurd cc
no_write_fault ending.Undecided e = absurd cc
no_write_fault ending.Differs e = absurd cc
no_write_fault ending.ReadFault e = absurd cc

reads : (end : Ending) → status_of end ≡ ReadFault → end ≡ ending.ReadFault
reads ending.Done e = absurd cc
reads ending.Usage e = absurd cc
reads ending.Refused e = absurd cc
reads ending.Rejected e = absurd cc
reads ending.Undecided e = absurd cc
reads ending.Differs e = absurd cc
reads ending.ReadFault e = refl

module _ (words : List (List ℕ)) (left rest old new : Option (List ℕ)) (output : Output) where
  answered : IsAnswer words left output → output.ending ≢ ending.ReadFault → Appends old new output.text → (end : Ending) → output.ending ≡ end → Outcome words left old new (status_of end)
  answered is other grew ending.Done ends = record { output = output; answer = is; ends = ends; grew = grew }
  answered is other grew ending.Usage ends = record { output = output; answer = is; ends = ends; grew = grew }
  answered is other grew ending.Refused ends = record { output = output; answer = is; ends = ends; grew = grew }
  answered is other grew ending.Rejected ends = record { output = output; answer = is; ends = ends; grew = grew }
  answered is other grew ending.Undecided ends = record { output = output; answer = is; ends = ends; grew = grew }
  answered is other grew ending.Differs ends = record { output = output; answer = is; ends = ends; grew = grew }
  answered is other grew ending.ReadFault ends = absurd (other ends)

  module _ (before after : ℕ) where
    pub may_write : IsRightOutput words left rest before after output → IsReply words left output
    may_write (inl right) = inl right.answer
    may_write (inr failed) = inr failed.is

    whole : IsRightOutput words left rest before after output → Appends old new output.text → Outcome words left old new (status_of output.ending)
    whole (inl right) grew = answered right.answer right.other grew output.ending refl
    whole (inr failed) grew =
        subst (λ (o : Output). Outcome words left old new (status_of o.ending)) (sym failed.is) (subst (λ (o : Output). Appends old new o.text) failed.is grew)

    is_fault : IsRightOutput words left rest before after output → output.ending ≡ ending.ReadFault → ReadFailed words before after output
    is_fault (inl right) e = absurd (right.other e)
    is_fault (inr failed) e = failed

    module _ (low high : ℕ) (result : Status) where
      put_outcome : IsRightOutput words left rest before after output → IsWritten output old new low high result → Outcome words left old new result
      put_outcome right (inl all) = subst (λ (s : Status). Outcome words left old new s) (sym all.0) (whole right all.1)
      put_outcome right (inr part) =
          subst (λ (s : Status). Outcome words left old new s) (sym part.0) (record { output = output; reply = may_write right; grew = part.1 })

      put_read : IsRightOutput words left rest before after output → IsWritten output old new low high result → result ≡ ReadFault → ReadFailed words before after output
      put_read right (inl all) e = is_fault right (reads output.ending (sym all.0 ∙ e))
      put_read right (inr part) e = absurd (cc (part.0, e))

      put_end : IsRightOutput words left rest before after output → IsWritten output old new low high result → IsAnswered result → IsReadToEnd words left rest
      put_end (inl right) written whole = right.end
      put_end (inr failed) (inl all) whole =
          absurd (subst IsAnswered (all.0 ∙ ap (λ (o : Output). status_of o.ending) failed.is) whole)
      put_end (inr failed) (inr part) whole = absurd (subst IsAnswered part.0 whole)

put_write : (output : Output) (old new : Option (List ℕ)) (low high : ℕ) (result : Status) → IsWritten output old new low high result → result ≡ WriteFault → HasRisen low high
put_write output old new low high result (inl all) e = absurd (no_write_fault output.ending (sym all.0 ∙ e))
put_write output old new low high result (inr part) e = part.2

module _ {E : Type 0} (old new : Option (List ℕ)) (low high : ℕ) (result : Status) where
  abbrev pub WasWritten : Result Output E → Type 0
  WasWritten output =
      MatchResult output (λ o. IsWritten o old new low high result) (λ _. (result ≡ NoMemory) × Keeps old new)

  pub written_write : (output : Result Output E) → WasWritten output → result ≡ WriteFault → HasRisen low high
  written_write (Ok output) written e = put_write output old new low high result written e
  written_write (Err f) written e = absurd (cc (written.0, e))

  module _ (words : List (List ℕ)) (left rest : Option (List ℕ)) (before after : ℕ) where
    pub written_outcome : (output : Result Output E) → IfOk output (IsRightOutput words left rest before after) → WasWritten output → Outcome words left old new result
    written_outcome (Ok output) right written = put_outcome words left rest old new output before after low high result right written
    written_outcome (Err e) right written = subst (λ (s : Status). Outcome words left old new s) (sym written.0) written.1

    failed : (output : Result Output E) → IfOk output (IsRightOutput words left rest before after) → WasWritten output → result ≡ ReadFault → (o : Output) × ReadFailed words before after o
    failed (Ok output) right written e = (output, put_read words left rest old new output before after low high result right written e)
    failed (Err f) right written e = absurd (cc (written.0, e))

    pub written_read : (output : Result Output E) → IfOk output (IsRightOutput words left rest before after) → WasWritten output → result ≡ ReadFault → HasRisen before after
    written_read output right written e = (failed output right written e).1.rose

    pub written_unread : (output : Result Output E) → IfOk output (IsRightOutput words left rest before after) → WasWritten output → words_read words ≡ false → result ≢ ReadFault
    written_unread output right written without e = cc ((failed output right written e).1.read, without)

    pub written_end : (output : Result Output E) → IfOk output (IsRightOutput words left rest before after) → WasWritten output → IsAnswered result → IsReadToEnd words left rest
    written_end (Ok output) right written whole = put_end words left rest old new output before after low high result right written whole
    written_end (Err e) right written whole = absurd (subst IsAnswered written.0 whole)

-- ---- a whole call

-- a sink that accepts the replies accepts the output
pub call_accepts : {E : Type 0} (accepts : List ℕ → Type 0) (words : List (List ℕ)) (left rest held : Option (List ℕ)) (before after : ℕ) (output : Result Output E)
    → AcceptsReplies accepts words left → IfOk output (IsRightOutput words left rest before after) → IfOk output (λ o. accepts o.text)
call_accepts accepts words left rest held before after output room right =
    IfOk-weaker output _ _ (λ o is. room o (may_write words left rest held held o before after is)) right

module _ {S K E : Type 0} (left : S → Option (List ℕ)) (read_faults : S → ℕ) (holds : K → Option (List ℕ)) (write_faults : K → ℕ) (words : List (List ℕ))
    (source rest : S) (sink grown : K) (status : Status) (output : Result Output E) where
  pub call_made : IfOk output (IsRightOutput words (left source) (left rest) (read_faults source) (read_faults rest))
      → WasWritten (holds sink) (holds grown) (write_faults sink) (write_faults grown) status output → HasSuffix (left source) (left rest)
      → (words_read words ≡ false → rest ≡ source) → IsCall left read_faults holds write_faults words source rest sink grown status
  call_made right written suffix untouched =
      let old = holds sink in
      let new = holds grown in
      let low = write_faults sink in
      let high = write_faults grown in
      let before = read_faults source in
      let after = read_faults rest in
      let outcome = written_outcome old new low high status words (left source) (left rest) before after output right written in
      let kept : (input : List ℕ) → left source ≡ Some input → IsValidInput words input → (status ≢ Usage) × (status ≢ Refused) =
      λ input tells. not_refused words input old new status (subst (λ (l : Option (List ℕ)). Outcome words l old new status) tells outcome) in
      let read = written_read old new low high status words (left source) (left rest) before after output right written in
      let write = written_write old new low high status output written in
      record {
        outcome = outcome;
        headline = outcome_says words (left source) old new status outcome;
        complete = kept;
        carried_out = λ input tells valid quiet calm. carried_out status (λ e. quiet (read e)) (λ e. calm (write e)) (kept input tells valid);
        read = read;
        write = write;
        unread = written_unread old new low high status words (left source) (left rest) before after output right written;
        suffix = suffix;
        untouched = untouched;
        end = written_end old new low high status words (left source) (left rest) before after output right written;
      }
