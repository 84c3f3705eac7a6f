-- Which text and which status a command gives, whatever its input is.
use Rattle.std.proofs.Common.{◌≡◌, ◌⊎◌, inl, inr, ℕ, Bool, true, false, nat_lt, List, [], ◌∷◌, ◌++◌, length, codes, Option, Some, None, Result, Ok, Err, refl, sym, ap, subst, ◌∙◌, append_assoc, append-nil, arith}
use Rattle.std.specs.Prelude.{MatchBool}
use Rattle.pop_io.specs.declared.whole.TheConstants.{INPUT_LIMIT}
use Rattle.base_lines.specs.Lines.{lines_of, ended}
use Rattle.pres_ast.specs.PredModel.{PredModel}
use Rattle.pop_words.specs.declared.command.Command.TheVariants.{Check, Show, Settle}
use Rattle.run_spec.specs.declared.kind.RunKind.{RunKind}
use Rattle.run_spec.specs.declared.spec.RunSpec.{RunSpec}
use Rattle.pop_words.specs.Words.{run_command}
use Rattle.cert_base.specs.ProofBound.{proof_bound}
use Rattle.cert_json.specs.declared.stable.StableBundle.{StableBundle}
use Rattle.pop_checker.specs.declared.stable_fault.StableRejected.{StableRejected}
use Rattle.pop_checker.specs.ValidStable.{stable_bound}
use Rattle.pop_checker.specs.Silent.{is_silent}
use Rattle.pop_settle.specs.declared.limits.TheConstants.{TAKE_LIMIT}
use Rattle.comp_net.specs.declared.choice.LeafChoice.{LeafChoice}
use Rattle.tool_texts.specs.declared.refusal.Refusal.{Refusal}
use Rattle.tool_texts.specs.declared.refusal.Refusal.TheVariants.{TooLong, Settle as TooManyTakes}
use Rattle.tool_texts.specs.declared.output.Output.{Output}
use Rattle.tool_texts.specs.declared.output.Ending.TheVariants.{Done as DoneEnding}
use Rattle.tool_texts.specs.declared.status.Status.{Status}
use Rattle.tool_texts.specs.declared.status.Status.TheVariants.{Done, Usage, Refused, Rejected as IsRejectedStatus, Undecided, Differs, ReadFault, WriteFault, NoMemory}
use Rattle.tool_texts.specs.Statuses.{status_of, code_of}
use Rattle.tool_texts.specs.Steps.{After}
use Rattle.tool_texts.specs.Lines.{just_two}
use Rattle.tool_texts.specs.Refusals.{output_for}
use Rattle.tool_rejections.specs.Rejections.{rejection_output}
use Rattle.tool_courses.specs.RunOutput.{run_ending}
use Rattle.tool_proofs.specs.Certified.{certified_text, certified_lines, stable_text, AreCertifiedLines, AreValidLines}
use Rattle.tool_proofs.specs.Check.{answered, OfJudged, OfBundle, CheckGives}
use Rattle.tool_proofs.specs.Show.{shown_text, OfJudged as OfShownJudged, OfBundle as OfShownBundle, ShowGives}
use Rattle.cert_show.specs.Lines.{text_of}
use Rattle.cert_show.specs.Shown.{shown_of}
use Rattle.tool_proofs.specs.Settle.{takes_allowed, IsSettled, OfJudged as OfSettleJudged, OfBegun as OfSettleBegun, OfLines as OfSettleLines, SettleGives}
use Rattle.tool_runs.specs.Run.{OfJudged as OfRunJudged, OfBegun as OfRunBegun, OfLines as OfRunLines, RunGives}
use Rattle.tool_nets.specs.Compile.{compiled_output, asked_by, fits_its_leaves, OfFitting, OfAsked, CompileGives}
use Rattle.pop_tool.specs.Answer.{InputGives}
use Rattle.pop_tool.specs.Headline.{WasRun, silent_in}
use Rattle.pop_tool.specs.Told.{BeginsCertified, BeginsStable, SaysRefused, SaysRejected, SaysWhyNot, CheckTold, ShowTold}
use Rattle.pop_tool.proofs.RunHeadline.{run_given}
use Rattle.pop_tool.proofs.FirstBytes.{first_byte, refusal_begins, rejection_begins}

-- what a text and a status say, of what a command gives
abbrev Of : (List ℕ → Status → Type 0) → Result Output Refusal → Type 0
Of says given = says (output_for given).text (status_of (output_for given).ending)

refused_says : (refusal : Refusal) (given : Result Output Refusal) → given ≡ Err refusal → Of SaysRefused given
refused_says refusal given is = subst (λ (g : Result Output Refusal). Of SaysRefused g) (sym is) (refl, refusal, refl)

rejected_says : (rejected : StableRejected) (given : Result Output Refusal) → given ≡ Ok (rejection_output rejected) → Of SaysRejected given
rejected_says rejected given is = subst (λ (g : Result Output Refusal). Of SaysRejected g) (sym is) (refl, rejected, refl)

-- ---- first bytes, and codes

certified_first : (text : List ℕ) → BeginsCertified text → first_byte text ≡ 99
unfolding first_byte
certified_first text (k, rest, is) = ap first_byte is

stable_first : (text : List ℕ) → BeginsStable text → first_byte text ≡ 115
unfolding first_byte
stable_first text (k, rest, is) = ap first_byte is

refused_first : (text : List ℕ) (status : Status) → SaysRefused text status → first_byte text ≡ 102
refused_first text status (s, refusal, is) = ap first_byte is ∙ refusal_begins refusal

rejected_first : (text : List ℕ) (status : Status) → SaysRejected text status → first_byte text ≡ 114
rejected_first text status (s, rejected, is) = ap first_byte is ∙ rejection_begins rejected

-- a refusal and a rejection begin as no line of a valid proof does
never_certified : (text : List ℕ) (status : Status) → SaysWhyNot text status → BeginsCertified text → ⊥
never_certified text status (inl r) c = let a = rejected_first text status r in let b = certified_first text c in absurd (omega (arith, a, b))
never_certified text status (inr r) c = let a = refused_first text status r in let b = certified_first text c in absurd (omega (arith, a, b))

never_stable : (text : List ℕ) (status : Status) → SaysWhyNot text status → BeginsStable text → ⊥
never_stable text status (inl r) c = let a = rejected_first text status r in let b = stable_first text c in absurd (omega (arith, a, b))
never_stable text status (inr r) c = let a = refused_first text status r in let b = stable_first text c in absurd (omega (arith, a, b))

never_begins : (text : List ℕ) (status : Status) → SaysWhyNot text status → BeginsCertified text ⊎ BeginsStable text → ⊥
never_begins text status why (inl c) = never_certified text status why c
never_begins text status why (inr c) = never_stable text status why c

-- nor is the status Done
never_done : (text : List ℕ) (status : Status) → SaysWhyNot text status → status ≡ Done → ⊥
never_done text status (inl (is, why, says)) done = absurd (cc (is, done))
never_done text status (inr (is, why, says)) done = absurd (cc (is, done))

zero_done : (status : Status) → code_of status ≡ 0 → status ≡ Done
zero_done Done e = refl
zero_done Usage e = absurd (omega (arith, e))
zero_done Refused e = absurd (omega (arith, e))
zero_done IsRejectedStatus e = absurd (omega (arith, e))
zero_done Undecided e = absurd (omega (arith, e))
zero_done Differs e = absurd (omega (arith, e))
zero_done ReadFault e = absurd (omega (arith, e))
zero_done WriteFault e = absurd (omega (arith, e))
zero_done NoMemory e = absurd (omega (arith, e))

done_zero : (status : Status) → status ≡ Done → code_of status ≡ 0
done_zero status done = ap code_of done

-- ---- check

pub tame_begins : (k : ℕ) (tame : Bool) (more : List ℕ) → BeginsCertified (certified_lines k tame ++ more)
tame_begins k true more = (k, ended (codes "tame") ++ more, append_assoc (ended (certified_text k)) (ended (codes "tame")) more)
tame_begins k false more = (k, more, refl)

abbrev IsWhole : List ℕ → Type 0
IsWhole text = (k : ℕ) × (((tame : Bool) × (text ≡ certified_lines k tame)) ⊎ (text ≡ ended (stable_text k)))

whole_begins : (text : List ℕ) → IsWhole text → BeginsCertified text ⊎ BeginsStable text
whole_begins text (k, inl (tame, is)) =
    inl (subst BeginsCertified (append-nil (certified_lines k tame) ∙ sym is) (tame_begins k tame []))
whole_begins text (k, inr is) = inr (k, [], is ∙ sym (append-nil (ended (stable_text k))))

check_done : (text : List ℕ) (status : Status) → status ≡ Done → IsWhole text → CheckTold text status
check_done text status done whole =
    record {
      done = ((λ d. whole_begins text whole), (λ b. done));
      exit = (zero_done status, done_zero status);
      whole = λ d. whole;
      other = inl done;
    }

check_why_not : (text : List ℕ) (status : Status) → SaysWhyNot text status → CheckTold text status
check_why_not text status why =
    record {
      done = ((λ d. absurd (never_done text status why d)), (λ b. absurd (never_begins text status why b)));
      exit = (zero_done status, done_zero status);
      whole = λ d. absurd (never_done text status why d);
      other = inr why;
    }

check_refused : (refusal : Refusal) (given : Result Output Refusal) → given ≡ Err refusal → Of CheckTold given
check_refused refusal given is = check_why_not (output_for given).text (status_of (output_for given).ending) (inr (refused_says refusal given is))

check_rejected : (rejected : StableRejected) (given : Result Output Refusal) → given ≡ Ok (rejection_output rejected) → Of CheckTold given
check_rejected rejected given is = check_why_not (output_for given).text (status_of (output_for given).ending) (inl (rejected_says rejected given is))

valid_whole : (bundle : StableBundle) (text : List ℕ) → AreValidLines bundle.net bundle.proof text → IsWhole text
valid_whole bundle text told = by_kind (is_silent bundle.proof) told
  where
    by_kind : (b : Bool) → MatchBool b (AreCertifiedLines bundle.net (silent_in bundle) text) (text ≡ ended (stable_text (stable_bound bundle.proof))) → IsWhole text
    by_kind true lines = (proof_bound (silent_in bundle), inl (lines.0, lines.2))
    by_kind false is = (stable_bound bundle.proof, inr is)

check_judged : (bundle : StableBundle) (judged : Option StableRejected) (given : Result Output Refusal) → OfJudged bundle judged given → Of CheckTold given
check_judged bundle None given (text, told, is) =
    subst (λ (g : Result Output Refusal). Of CheckTold g) (sym is) (check_done text Done refl (valid_whole bundle text told))
check_judged bundle (Some rejected) given is = check_rejected rejected given is

check_bundle : (r : Result StableBundle Refusal) (given : Result Output Refusal) → After r OfBundle given → Of CheckTold given
check_bundle (Err refusal) given is = check_refused refusal given is
check_bundle (Ok bundle) given is = check_judged bundle is.0 given is.2

check_lines : (lines : List (List ℕ)) (given : Result Output Refusal) → CheckGives lines given → Of CheckTold given
check_lines [] given is = check_refused _ given is
check_lines (line ∷ []) given is = check_bundle is.0 given is.2
check_lines (line ∷ second ∷ more) given is = check_refused _ given is

check_length : (long : Bool) (lines : List (List ℕ)) (given : Result Output Refusal) → MatchBool long (given ≡ Err TooLong) (CheckGives lines given) → Of CheckTold given
check_length true lines given is = check_refused TooLong given is
check_length false lines given is = check_lines lines given is

pub check_told : (input : List ℕ) (given : Result Output Refusal) → InputGives Check input given → CheckTold (output_for given).text (status_of (output_for given).ending)
check_told input given is = check_length (nat_lt INPUT_LIMIT (length input)) (lines_of input) given is

-- ---- show

show_why_not : (text : List ℕ) (status : Status) → SaysWhyNot text status → ShowTold text status
show_why_not text status why =
    record {
      done = ((λ d. absurd (never_done text status why d)), (λ b. absurd (never_begins text status why b)));
      exit = (zero_done status, done_zero status);
      other = inr why;
    }

show_refused : (refusal : Refusal) (given : Result Output Refusal) → given ≡ Err refusal → Of ShowTold given
show_refused refusal given is = show_why_not (output_for given).text (status_of (output_for given).ending) (inr (refused_says refusal given is))

more_begins : (text more : List ℕ) → IsWhole text → BeginsCertified (text ++ more) ⊎ BeginsStable (text ++ more)
more_begins text more (k, inl (tame, is)) =
    inl (subst (λ (t : List ℕ). BeginsCertified (t ++ more)) (sym is) (tame_begins k tame more))
more_begins text more (k, inr is) = inr (k, more, ap (λ (t : List ℕ). t ++ more) is)

show_done : (bundle : StableBundle) (checked : List ℕ) → AreValidLines bundle.net bundle.proof checked → Of ShowTold (Ok (answered (shown_text bundle checked)))
show_done bundle checked told =
    record {
      done = ((λ d. more_begins checked (text_of (shown_of bundle.net bundle.pred bundle.proof)) (valid_whole bundle checked told)), (λ b. refl));
      exit = (zero_done Done, done_zero Done);
      other = inl refl;
    }

show_judged : (bundle : StableBundle) (judged : Option StableRejected) (given : Result Output Refusal) → OfShownJudged bundle judged given → Of ShowTold given
show_judged bundle None given (checked, told, is) = subst (λ (g : Result Output Refusal). Of ShowTold g) (sym is) (show_done bundle checked told)
show_judged bundle (Some rejected) given is =
    show_why_not (output_for given).text (status_of (output_for given).ending) (inl (rejected_says rejected given is))

show_bundle : (r : Result StableBundle Refusal) (given : Result Output Refusal) → After r OfShownBundle given → Of ShowTold given
show_bundle (Err refusal) given is = show_refused refusal given is
show_bundle (Ok bundle) given is = show_judged bundle is.0 given is.2

show_lines : (lines : List (List ℕ)) (given : Result Output Refusal) → ShowGives lines given → Of ShowTold given
show_lines [] given is = show_refused _ given is
show_lines (line ∷ []) given is = show_bundle is.0 given is.2
show_lines (line ∷ second ∷ more) given is = show_refused _ given is

show_length : (long : Bool) (lines : List (List ℕ)) (given : Result Output Refusal) → MatchBool long (given ≡ Err TooLong) (ShowGives lines given) → Of ShowTold given
show_length true lines given is = show_refused TooLong given is
show_length false lines given is = show_lines lines given is

pub show_told : (input : List ℕ) (given : Result Output Refusal) → InputGives Show input given → ShowTold (output_for given).text (status_of (output_for given).ending)
show_told input given is = show_length (nat_lt INPUT_LIMIT (length input)) (lines_of input) given is

-- ---- settle

abbrev SettleTold : List ℕ → Status → Type 0
SettleTold text status = (status ≡ Done) ⊎ SaysWhyNot text status

settle_refused : (refusal : Refusal) (given : Result Output Refusal) → given ≡ Err refusal → Of SettleTold given
settle_refused refusal given is = inr (inr (refused_says refusal given is))

settle_rejected : (rejected : StableRejected) (given : Result Output Refusal) → given ≡ Ok (rejection_output rejected) → Of SettleTold given
settle_rejected rejected given is = inr (inl (rejected_says rejected given is))

given_done : (output : Output) (given : Result Output Refusal) → output.ending ≡ DoneEnding → given ≡ Ok output → status_of (output_for given).ending ≡ Done
given_done output given done is = ap (λ (g : Result Output Refusal). status_of (output_for g).ending) is ∙ ap status_of done

settle_takes : (bundle : StableBundle) (counts : List ℕ) (long : Bool) (given : Result Output Refusal)
    → MatchBool long (given ≡ Err (TooManyTakes (takes_allowed bundle counts))) (IsSettled bundle counts given) → Of SettleTold given
settle_takes bundle counts true given is = settle_refused (TooManyTakes (takes_allowed bundle counts)) given is
settle_takes bundle counts false given is = inl (given_done _ given refl is.is)

settle_judged : (bundle : StableBundle) (counts : List ℕ) (judged : Option StableRejected) (given : Result Output Refusal) → OfSettleJudged bundle counts judged given → Of SettleTold given
settle_judged bundle counts None given is = settle_takes bundle counts (nat_lt TAKE_LIMIT (takes_allowed bundle counts)) given is
settle_judged bundle counts (Some rejected) given is = settle_rejected rejected given is

settle_begun : (r : Result (StableBundle × List ℕ) Refusal) (given : Result Output Refusal) → After r (λ begun. OfSettleBegun begun.0 begun.1) given → Of SettleTold given
settle_begun (Err refusal) given is = settle_refused refusal given is
settle_begun (Ok begin) given is = settle_judged begin.0 begin.1 is.0 given is.2

settle_lines : (r : Result (List ℕ × List ℕ) Refusal) (given : Result Output Refusal) → After r OfSettleLines given → Of SettleTold given
settle_lines (Err refusal) given is = settle_refused refusal given is
settle_lines (Ok found) given is = settle_begun is.0 given is.2

settle_length : (long : Bool) (lines : List (List ℕ)) (given : Result Output Refusal) → MatchBool long (given ≡ Err TooLong) (SettleGives lines given) → Of SettleTold given
settle_length true lines given is = settle_refused TooLong given is
settle_length false lines given is = settle_lines (just_two lines) given is

pub settle_told : (input : List ℕ) (given : Result Output Refusal) → InputGives Settle input given → (status_of (output_for given).ending ≡ Done) ⊎ SaysWhyNot (output_for given).text (status_of (output_for given).ending)
settle_told input given is = settle_length (nat_lt INPUT_LIMIT (length input)) (lines_of input) given is

-- ---- compile

abbrev CompileTold : List ℕ → Status → Type 0
CompileTold text status = (status ≡ Done) ⊎ SaysRefused text status

module _ (choice : LeafChoice) where
  fitting_told : (asked : List (List ℕ) × PredModel) (r : Result (Unit {0}) Refusal) (given : Result Output Refusal) → After r (OfFitting choice asked.0 asked.1) given → Of CompileTold given
  fitting_told asked (Err refusal) given is = inr (refused_says refusal given is)
  fitting_told asked (Ok fits) given is = inl (given_done (compiled_output is.0) given refl is.2)

  asked_told : (r : Result (List (List ℕ) × PredModel) Refusal) (given : Result Output Refusal) → After r (OfAsked choice) given → Of CompileTold given
  asked_told (Err refusal) given is = inr (refused_says refusal given is)
  asked_told (Ok asked) given is = fitting_told asked (fits_its_leaves choice asked.1.tree) given is

  compile_length : (long : Bool) (lines : List (List ℕ)) (given : Result Output Refusal) → MatchBool long (given ≡ Err TooLong) (CompileGives choice lines given) → Of CompileTold given
  compile_length true lines given is = inr (refused_says TooLong given is)
  compile_length false lines given is = asked_told (asked_by lines) given is

  pub compile_told : (input : List ℕ) (given : Result Output Refusal) → MatchBool (nat_lt INPUT_LIMIT (length input)) (given ≡ Err TooLong) (CompileGives choice (lines_of input) given)
      → (status_of (output_for given).ending ≡ Done) ⊎ SaysRefused (output_for given).text (status_of (output_for given).ending)
  compile_told input given is = compile_length (nat_lt INPUT_LIMIT (length input)) (lines_of input) given is

-- ---- run and watch

abbrev RunTold : List ℕ → Status → Type 0
RunTold text status = WasRun status ⊎ SaysWhyNot text status

run_refused : (refusal : Refusal) (given : Result Output Refusal) → given ≡ Err refusal → Of RunTold given
run_refused refusal given is = inr (inr (refused_says refusal given is))

ending_ran : (pair : Option (ℕ × ℕ)) → WasRun (status_of (run_ending pair))
ending_ran None = inl refl
ending_ran (Some (a, b)) = inr refl

module _ (kind : RunKind) (spec : RunSpec) where
  run_judged : (lines : List ℕ) (bundle : StableBundle) (counts : List ℕ) (judged : Option StableRejected) (output : Output) (given : Result Output Refusal) → given ≡ Ok output
      → OfRunJudged kind spec lines bundle counts judged output → Of RunTold given
  run_judged lines bundle counts None output given is of =
      inl (subst WasRun (sym (ap (λ (g : Result Output Refusal). status_of (output_for g).ending) is ∙ ap status_of of.ending)) (ending_ran of.pair))
  run_judged lines bundle counts (Some rejected) output given is of =
      inr (inl (rejected_says rejected given (is ∙ ap (λ (o : Output). Ok o) of)))

  run_begun : (lines : List ℕ) (r : Result (StableBundle × List ℕ) Refusal) (given : Result Output Refusal) → After r (OfRunBegun kind spec lines) given → Of RunTold given
  run_begun lines (Err refusal) given is = run_refused refusal given is
  run_begun lines (Ok begin) given is = run_judged lines begin.0 begin.1 is.0 is.1 given is.4 is.3

  run_lines : (r : Result (List ℕ × List ℕ) Refusal) (given : Result Output Refusal) → After r (OfRunLines kind spec) given → Of RunTold given
  run_lines (Err refusal) given is = run_refused refusal given is
  run_lines (Ok found) given is = run_begun (ended found.0 ++ ended found.1) is.0 given is.2

  run_length : (long : Bool) (lines : List (List ℕ)) (given : Result Output Refusal) → MatchBool long (given ≡ Err TooLong) (RunGives kind spec lines given) → Of RunTold given
  run_length true lines given is = run_refused TooLong given is
  run_length false lines given is = run_lines (just_two lines) given is

pub run_told : (kind : RunKind) (spec : RunSpec) (input : List ℕ) (given : Result Output Refusal) → InputGives (run_command kind spec) input given
    → WasRun (status_of (output_for given).ending) ⊎ SaysWhyNot (output_for given).text (status_of (output_for given).ending)
run_told kind spec input given is = run_length kind spec (nat_lt INPUT_LIMIT (length input)) (lines_of input) given (run_given kind spec input given is)
