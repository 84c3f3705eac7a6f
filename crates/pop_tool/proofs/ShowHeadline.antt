-- What a printed text of `show` says of a bundle.
use Rattle.std.proofs.Common.{◌≡◌, ℕ, ◌≤◌, Bool, true, false, nat_lt, List, [], ◌∷◌, length, Option, Some, None, Result, Ok, Err, refl, sym, ap, subst, ◌∙◌}
use Rattle.std.specs.Prelude.{◌↔◌, Decides, MatchBool}
use Rattle.std.proofs.lemmas.Bool.{le-ltb, ltb-false}
use Rattle.pop_io.specs.declared.whole.TheConstants.{INPUT_LIMIT}
use Rattle.base_lines.specs.Lines.{lines_of}
use Rattle.pop_words.specs.declared.command.Command.TheVariants.{Show}
use Rattle.cert_base.specs.ProofBound.{proof_bound}
use Rattle.cert_json.specs.declared.stable.StableBundle.{StableBundle}
use Rattle.theory_random.specs.ComputesAlmostSurely.{ComputesInCubicTime}
use Rattle.pop_checker.specs.TameEach.{AreTameInTimeEach}
use Rattle.pop_checker.specs.declared.stable_fault.StableRejected.{StableRejected}
use Rattle.pop_checker.specs.Silent.{is_silent}
use Rattle.pop_checker.proofs.OneStableFault.{none_stable_rejected}
use Rattle.tool_texts.specs.declared.refusal.Refusal.{Refusal}
use Rattle.tool_texts.specs.declared.refusal.Refusal.TheVariants.{TooLong}
use Rattle.tool_texts.specs.declared.output.Output.{Output}
use Rattle.tool_texts.specs.declared.status.Status.TheVariants.{Done}
use Rattle.tool_texts.specs.Statuses.{status_of}
use Rattle.tool_texts.specs.Steps.{After}
use Rattle.tool_texts.specs.Lines.{just_one}
use Rattle.tool_texts.specs.Refusals.{output_for}
use Rattle.tool_rejections.specs.Judged.{IsJudged}
use Rattle.tool_bundles.specs.Bundles.{IsBundleOf}
use Rattle.tool_proofs.specs.Certified.{certified_lines, AreValidLines}
use Rattle.tool_proofs.specs.Show.{OfJudged, OfBundle, OfLine, ShowGives}
use Rattle.pop_tool.specs.Answer.{InputGives}
use Rattle.pop_tool.specs.Headline.{IsBundleLine, HasValidProof, silent_in, SaysShown, IsShownLine}
use Rattle.pop_tool.proofs.BundleInput.{bundle_line, line_read}
use Rattle.pop_tool.proofs.SilentBundles.{file_stable, file_right, tame_settles}
use Rattle.pop_tool.proofs.CheckHeadline.{silent_lines, told_by}

abbrev IsDone : Result Output Refusal → Type 0
IsDone given = status_of (output_for given).ending ≡ Done

refused : (refusal : Refusal) (given : Result Output Refusal) → given ≡ Err refusal → IsDone given → ⊥
refused refusal given is done = let e = subst IsDone is done in absurd (cc e)

abbrev Says : StableBundle → Result Output Refusal → Type 0
Says bundle given = SaysShown bundle (output_for given).text (status_of (output_for given).ending) ↔ HasValidProof bundle

judged_says : (bundle : StableBundle) (judged : Option StableRejected) → IsJudged bundle judged → (given : Result Output Refusal) → OfJudged bundle judged given → Says bundle given
judged_says bundle None valid given (checked, told, is) = subst (Says bundle) (sym is) ((λ p. valid), (λ v. (checked, told, refl, refl)))
judged_says bundle (Some rejected) judged given is =
    let never : HasValidProof bundle → ⊥ = λ valid. none_stable_rejected bundle.net bundle.pred bundle.proof rejected valid judged in
    subst (Says bundle) (sym is) ((λ p. absurd (cc (p.3))), (λ valid. absurd (never valid)))

short_lines : (input : List ℕ) (given : Result Output Refusal) → length input ≤ INPUT_LIMIT → InputGives Show input given → ShowGives (lines_of input) given
short_lines input given short is = rw (le-ltb INPUT_LIMIT (length input) short) at is

-- what is given for the line of a bundle
pub show_says : (input : List ℕ) (bundle : StableBundle) (given : Result Output Refusal) → IsBundleLine input bundle → InputGives Show input given
    → SaysShown bundle (output_for given).text (status_of (output_for given).ending) ↔ HasValidProof bundle
show_says input bundle given line is =
    let of_line : OfLine line.line given = subst (λ (ls : List (List ℕ)). After (just_one ls) OfLine given) line.lines (short_lines input given line.short is) in
    let read : of_line.0 ≡ Ok bundle = of_line.1.2 ∙ line_read input bundle line of_line.1.0 of_line.1.1 in
    let of_bundle : OfBundle bundle given = subst (λ (r : Result StableBundle Refusal). After r OfBundle given) read of_line.2 in
    judged_says bundle of_bundle.0 of_bundle.1 given of_bundle.2

module _ (input : List ℕ) (given : Result Output Refusal) (done : IsDone given) where
  module _ (bundle : StableBundle) (line : IsBundleLine input bundle) (valid : HasValidProof bundle) (checked : List ℕ) (told : AreValidLines bundle.net bundle.proof checked) where
    settles : is_silent bundle.proof ≡ true → checked ≡ certified_lines (proof_bound (silent_in bundle)) true → ComputesInCubicTime bundle.net bundle.pred.tree (proof_bound (silent_in bundle))
    settles silent e =
        let lines = silent_lines bundle checked silent told in
        let K : ℕ = proof_bound (silent_in bundle) in
        tame_settles bundle silent line.value line.file valid (told_by K K (AreTameInTimeEach bundle.net (silent_in bundle)) lines.0 lines.1 (sym lines.2 ∙ e))

  judged_shown : (bundle : StableBundle) → IsBundleLine input bundle → (judged : Option StableRejected) → IsJudged bundle judged → OfJudged bundle judged given → IsShownLine input (output_for given).text
  judged_shown bundle line None valid (checked, told, is) =
      record {
        bundle = bundle;
        line = line;
        valid = valid;
        stably = file_stable bundle line.value line.file valid;
        right = λ silent. file_right bundle silent line.value line.file valid;
        checked = checked;
        told = told;
        settles = settles bundle line valid checked told;
        printed = ap (λ (g : Result Output Refusal). (output_for g).text) is;
      }
  judged_shown bundle line (Some rejected) judged is = absurd (let e = subst IsDone is done in cc e)

  bundle_shown : (line : List ℕ) → length input ≤ INPUT_LIMIT → lines_of input ≡ line ∷ [] → (r : Result StableBundle Refusal) → IsBundleOf line r → After r OfBundle given → IsShownLine input (output_for given).text
  bundle_shown line short one (Err refusal) of is = absurd (refused refusal given is done)
  bundle_shown line short one (Ok bundle) of is = judged_shown bundle (bundle_line input line bundle short one of) is.0 is.1 is.2

  lines_shown : (lines : List (List ℕ)) → length input ≤ INPUT_LIMIT → lines_of input ≡ lines → ShowGives lines given → IsShownLine input (output_for given).text
  lines_shown [] short is of = absurd (refused _ given of done)
  lines_shown (line ∷ []) short is of = bundle_shown line short is of.0 of.1 of.2
  lines_shown (line ∷ second ∷ more) short is of = absurd (refused _ given of done)

  by_length : (long : Bool) → nat_lt INPUT_LIMIT (length input) ≡ long → MatchBool long (given ≡ Err TooLong) (ShowGives (lines_of input) given) → IsShownLine input (output_for given).text
  by_length true is of = absurd (refused TooLong given of done)
  by_length false is of = lines_shown (lines_of input) (ltb-false INPUT_LIMIT (length input) is) refl of

-- what is given with the status Done
pub show_done : (input : List ℕ) (given : Result Output Refusal) → InputGives Show input given → IsDone given → IsShownLine input (output_for given).text
show_done input given is done = by_length input given done (nat_lt INPUT_LIMIT (length input)) refl is
