-- What a printed text of `run` or `watch` says of a bundle.
use Rattle.std.proofs.Common.{◌≡◌, inl, inr, ℕ, Bool, true, false, cond, nat_lt, List, [], ◌∷◌, ◌++◌, length, Option, Some, None, Result, Ok, Err, refl, sym, ap, subst}
use Rattle.std.specs.Prelude.{◌↔◌, All, MatchBool}
use Rattle.pop_io.specs.declared.whole.TheConstants.{INPUT_LIMIT}
use Rattle.base_lines.specs.Lines.{lines_of, ended}
use Rattle.pres_ast.specs.PredicateValue.{predicate_value}
use Rattle.pop_leaf.specs.NetModel.{NetModel, CrowdModel, IsTuple}
use Rattle.pop_leaf.specs.InputCrowd.{input_crowd}
use Rattle.pop_leaf.specs.Step.{Step}
use Rattle.pop_leaf.specs.Reachable.{Reachable}
use Rattle.pop_leaf.specs.Terminal.{IsTerminal}
use Rattle.terminal_test.proofs.Ends.{not_terminal}
use Rattle.run_spec.specs.declared.kind.RunKind.{RunKind}
use Rattle.run_spec.specs.declared.kind.RunKind.TheVariants.{Whole, Watched}
use Rattle.pop_words.specs.Words.{run_command}
use Rattle.run_spec.specs.declared.spec.RunSpec.{RunSpec}
use Rattle.run_text.specs.declared.last.Last.{Last}
use Rattle.run_text.specs.declared.last.Last.TheVariants.{Verdict, Settled, Undecided as UndecidedBy}
use Rattle.cert_json.specs.declared.stable.StableBundle.{StableBundle}
use Rattle.cert_json.proofs.StablePreds.{file_net, file_preds}
use Rattle.pop_checker.specs.declared.stable_fault.StableRejected.{StableRejected}
use Rattle.pop_settle.specs.Resting.{resting_net}
use Rattle.pop_settle.proofs.Rests.{resting_right}
use Rattle.theory_goals.specs.OutputStable.{IsOutputStable}
use Rattle.tool_texts.specs.declared.refusal.Refusal.{Refusal}
use Rattle.tool_texts.specs.declared.refusal.Refusal.TheVariants.{TooLong}
use Rattle.tool_texts.specs.declared.output.Output.{Output}
use Rattle.tool_texts.specs.declared.output.Ending.{Ending}
use Rattle.tool_texts.specs.declared.status.Status.{Status}
use Rattle.tool_texts.specs.declared.status.Status.TheVariants.{Done, Undecided, Refused, Rejected as IsRejectedStatus}
use Rattle.tool_texts.specs.Statuses.{status_of}
use Rattle.tool_texts.specs.Steps.{After}
use Rattle.tool_texts.specs.Lines.{just_two}
use Rattle.tool_texts.specs.Refusals.{output_for}
use Rattle.pop_checker.specs.Silent.{is_silent}
use Rattle.tool_bundles.specs.Bundles.{IsBegunBy}
use Rattle.tool_bundles.specs.LastOf.{last_of}
use Rattle.tool_rejections.specs.Judged.{IsJudged}
use Rattle.tool_courses.specs.Course.{rest_of, course_of}
use Rattle.tool_bundles.specs.LastPair.{IsLast}
use Rattle.tool_courses.specs.RunOutput.{journal_end, run_ending, IsRunOutput}
use Rattle.tool_runs.specs.Run.{OfJudged, OfBegun, OfLines, RunGives}
use Rattle.pop_tool.specs.Answer.{InputGives}
use Rattle.pop_tool.specs.Runs.{IsLastLine}
use Rattle.pop_tool.specs.Headline.{IsBundleInput, HasValidProof, RunSays, WasRun}
use Rattle.pop_tool.proofs.BundleInput.{bundle_input}
use Rattle.pop_tool.proofs.SilentBundles.{file_stable, file_right, terminal_stays}
use Rattle.pop_tool.proofs.Courses.{reached, rest_tuples}

verdict_value : (v truth : Bool) → Verdict truth ≡ Verdict v → v ≡ truth
verdict_value v truth e = cc

settled_value : (v truth : Bool) → Settled truth ≡ Settled v → v ≡ truth
settled_value v truth e = cc

value_by_kind : (b v truth : Bool) → cond b (Verdict truth) (Settled truth) ≡ cond b (Verdict v) (Settled v) → v ≡ truth
value_by_kind true v truth e = verdict_value v truth e
value_by_kind false v truth e = settled_value v truth e

no_pair : (b v : Bool) (i j : ℕ) → UndecidedBy i j ≡ cond b (Verdict v) (Settled v) → ⊥
no_pair true v i j e = cc
no_pair false v i j e = cc

-- the last line tells one value
same_value : (bundle : StableBundle) (v truth : Bool) → last_of bundle.proof truth ≡ last_of bundle.proof v → v ≡ truth
same_value bundle v truth e = value_by_kind (is_silent bundle.proof) v truth e

pub two_lines : (lines : List (List ℕ)) (found : List ℕ × List ℕ) → just_two lines ≡ Ok found → lines ≡ found.0 ∷ found.1 ∷ []
two_lines [] found e = absurd cc
two_lines (a ∷ []) found e = absurd cc
two_lines (a ∷ b ∷ []) found e =
    let both : ◌≡◌ {A = List ℕ × List ℕ} (a, b) found = cc in ap (λ (p : List ℕ × List ℕ). p.0 ∷ p.1 ∷ []) both
two_lines (a ∷ b ∷ c ∷ more) found e = absurd cc

module _ (net : NetModel) (end : CrowdModel) (tuples : All (IsTuple net) end) (told : Last) where
  pub last_line : (pair : Option (ℕ × ℕ)) → IsLast net end pair → IsLastLine net told end (journal_end told pair)
  last_line None is = record { ended = λ terminal. refl; undecided = λ moves. absurd (moves is) }
  last_line (Some (a, b)) is = record {
    ended = λ terminal. absurd (not_terminal net end tuples a b is.enabled terminal);
    undecided = λ moves. (a, b, is, refl);
  }

  value_ends : (b v : Bool) (pair : Option (ℕ × ℕ)) → IsLast net end pair → journal_end told pair ≡ cond b (Verdict v) (Settled v) → IsTerminal (Step net) end × (told ≡ cond b (Verdict v) (Settled v))
  value_ends b v None is e = (is, e)
  value_ends b v (Some (i, j)) is e = absurd (no_pair b v i j e)

  done_ends : (pair : Option (ℕ × ℕ)) → IsLast net end pair → (status_of (run_ending pair) ≡ Done) ↔ IsTerminal (Step net) end
  done_ends None is = (λ e. is, λ terminal. refl)
  done_ends (Some (a, b)) is =
      (λ e. absurd cc, λ terminal. absurd (not_terminal net end tuples a b is.enabled terminal))

  undecided_ends : (pair : Option (ℕ × ℕ)) → IsLast net end pair → (status_of (run_ending pair) ≡ Undecided) ↔ (IsTerminal (Step net) end → ⊥)
  undecided_ends None is = (λ e. absurd cc, λ moves. absurd (moves is))
  undecided_ends (Some (a, b)) is =
      (λ e terminal. not_terminal net end tuples a b is.enabled terminal, λ moves. refl)

not_rejected : (status : Status) → status ≡ IsRejectedStatus → WasRun status → ⊥
not_rejected status is (inl done) = absurd (cc (is, done))
not_rejected status is (inr undecided) = absurd (cc (is, undecided))

not_refused : WasRun Refused → ⊥
not_refused (inl done) = absurd cc
not_refused (inr undecided) = absurd cc

abbrev Ran : Result Output Refusal → Type 0
Ran given = WasRun (status_of (output_for given).ending)

refused : (refusal : Refusal) (given : Result Output Refusal) → given ≡ Err refusal → Ran given → ⊥
refused refusal given is ran = not_refused (subst Ran is ran)

-- what is given for an input to the command that makes a run of this kind
pub run_given : (kind : RunKind) (spec : RunSpec) (input : List ℕ) (given : Result Output Refusal) → InputGives (run_command kind spec) input given
    → MatchBool (nat_lt INPUT_LIMIT (length input)) (given ≡ Err TooLong) (RunGives kind spec (lines_of input) given)
run_given Whole spec input given of = of
run_given Watched spec input given of = of

-- a run that was made: its bundle, whose proof is valid, its counts, and its output
pub record IsMade (kind : RunKind) (spec : RunSpec) (input : List ℕ) (output : Output) : Type 0 where
  pub first : List ℕ
  pub second : List ℕ
  pub lines : lines_of input ≡ first ∷ second ∷ []
  pub bundle : StableBundle
  pub counts : List ℕ
  pub begins : IsBegunBy first second (Ok (bundle, counts))
  pub valid : IsJudged bundle None
  pub is : IsRunOutput kind spec (ended first ++ ended second) (course_of bundle counts) counts output

module _ (kind : RunKind) (spec : RunSpec) (input : List ℕ) where
  module _ (first second : List ℕ) (lines : lines_of input ≡ first ∷ second ∷ []) where
    judged_made : (bundle : StableBundle) (counts : List ℕ) → IsBegunBy first second (Ok (bundle, counts)) → (judged : Option StableRejected) → IsJudged bundle judged → (output : Output)
        → OfJudged kind spec (ended first ++ ended second) bundle counts judged output → WasRun (status_of output.ending) → IsMade kind spec input output
    judged_made bundle counts begins None is output of ran =
        record { first = first; second = second; lines = lines; bundle = bundle; counts = counts; begins = begins; valid = is; is = of }
    judged_made bundle counts begins (Some rejected) is output of ran =
        absurd (not_rejected (status_of output.ending) (ap (λ (o : Output). status_of o.ending) of) ran)

    begun_made : (r : Result (StableBundle × List ℕ) Refusal) → IsBegunBy first second r → (given : Result Output Refusal) → After r (OfBegun kind spec (ended first ++ ended second)) given → Ran given → IsMade kind spec input (output_for given)
    begun_made (Err refusal) begins given of ran = absurd (refused refusal given of ran)
    begun_made (Ok begin) begins given of ran =
        subst (λ (g : Result Output Refusal). IsMade kind spec input (output_for g)) (sym of.4)
        (judged_made begin.0 begin.1 begins of.0 of.2 of.1 of.3 (subst Ran of.4 ran))

  lines_made : (r : Result (List ℕ × List ℕ) Refusal) → just_two (lines_of input) ≡ r → (given : Result Output Refusal) → After r (OfLines kind spec) given → Ran given → IsMade kind spec input (output_for given)
  lines_made (Err refusal) is given of ran = absurd (refused refusal given of ran)
  lines_made (Ok found) is given of ran =
      begun_made found.0 found.1 (two_lines (lines_of input) found is) of.0 of.1 given of.2 ran

  by_length : (long : Bool) (given : Result Output Refusal) → MatchBool long (given ≡ Err TooLong) (RunGives kind spec (lines_of input) given) → Ran given → IsMade kind spec input (output_for given)
  by_length true given of ran = absurd (refused TooLong given of ran)
  by_length false given of ran = lines_made (just_two (lines_of input)) refl given of ran

  pub run_made : (given : Result Output Refusal) → InputGives (run_command kind spec) input given → Ran given → IsMade kind spec input (output_for given)
  run_made given of ran = by_length (nat_lt INPUT_LIMIT (length input)) given (run_given kind spec input given of) ran

  module _ (first second : List ℕ) (lines : lines_of input ≡ first ∷ second ∷ []) (output : Output) (bundle : StableBundle) (counts : List ℕ) (begun : IsBegunBy first second (Ok (bundle, counts))) (valid : HasValidProof bundle)
      (is : IsRunOutput kind spec (ended first ++ ended second) (course_of bundle counts) counts output) where
    abbrev rest : NetModel
    rest = rest_of bundle counts

    abbrev truth : Bool
    truth = predicate_value bundle.pred.tree counts

    abbrev told : Last
    told = last_of bundle.proof truth

    begins : IsBundleInput first second bundle counts
    begins = bundle_input first second bundle counts begun

    tuples : All (IsTuple rest) is.end
    tuples = rest_tuples first second bundle counts begun valid kind spec is.rounds is.end is.run

    to : Reachable (Step bundle.net) (input_crowd bundle.net counts) is.end
    to = reached first second bundle counts begun valid kind spec is.rounds is.end is.run

    -- where the run is at rest, every agent outputs the predicate's value for ever
    stays_by_kind : (b : Bool) → is_silent bundle.proof ≡ b → IsTerminal (Step (cond b bundle.net (resting_net bundle.net bundle.proof counts))) is.end → IsOutputStable bundle.net truth is.end
    stays_by_kind true silent terminal =
        terminal_stays bundle.net truth is.end terminal
        (((file_right bundle silent begins.value begins.file valid).computes counts is.end is.input to).right terminal)
    stays_by_kind false goals terminal =
        resting_right bundle.net bundle.proof counts is.end (file_net bundle begins.value begins.file) terminal bundle.pred (file_preds bundle begins.value begins.file) valid is.input to

    stays_at : IsTerminal (Step rest) is.end → IsOutputStable bundle.net truth is.end
    stays_at = stays_by_kind (is_silent bundle.proof) refl

    at_rest : (v : Bool) → journal_end told is.pair ≡ last_of bundle.proof v → IsTerminal (Step rest) is.end × (told ≡ last_of bundle.proof v)
    at_rest v = value_ends rest is.end tuples told (is_silent bundle.proof) v is.pair is.last

    bundle_says : RunSays kind spec input output.text (status_of output.ending)
    bundle_says =
        record {
          first = first;
          second = second;
          lines = lines;
          bundle = bundle;
          counts = counts;
          begins = begins;
          right = file_stable bundle begins.value begins.file valid;
          computes = λ silent. (file_right bundle silent begins.value begins.file valid).computes;
          rounds = is.rounds;
          end = is.end;
          run = is.run;
          reached = to;
          last = journal_end told is.pair;
          printed = is.text;
          ends = last_line rest is.end tuples told is.pair is.last;
          rests = λ v e. (at_rest v e).0;
          value_is = λ v e. same_value bundle v truth (at_rest v e).1;
          stays = λ v e. let ends = at_rest v e in subst (λ (b : Bool). IsOutputStable bundle.net b is.end) (sym (same_value bundle v truth ends.1)) (stays_at ends.0);
          done = subst (λ (e : Ending). (status_of e ≡ Done) ↔ IsTerminal (Step rest) is.end) (sym is.ending) (done_ends rest is.end tuples told is.pair is.last);
          undecided = subst (λ (e : Ending). (status_of e ≡ Undecided) ↔ (IsTerminal (Step rest) is.end → ⊥)) (sym is.ending) (undecided_ends rest is.end tuples told is.pair is.last);
        }

  made_says : (output : Output) → IsMade kind spec input output → RunSays kind spec input output.text (status_of output.ending)
  made_says output made = bundle_says made.first made.second made.lines output made.bundle made.counts made.begins made.valid made.is

  pub run_says : (given : Result Output Refusal) → InputGives (run_command kind spec) input given → Ran given → RunSays kind spec input (output_for given).text (status_of (output_for given).ending)
  run_says given of ran = made_says (output_for given) (run_made given of ran)
