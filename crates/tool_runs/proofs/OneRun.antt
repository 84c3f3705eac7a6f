-- A whole run by one worker has one output.
use Rattle.std.proofs.Common.{◌≡◌, ℕ, ◌≤◌, List, ◌++◌, length, Option, Some, None, Result, Ok, refl, sym, ap, subst, ◌∙◌}
use Rattle.std.specs.Prelude.{All}
use Rattle.base_lines.specs.Lines.{ended}
use Rattle.pop_leaf.specs.NetModel.{Tuple, CrowdModel}
use Rattle.pop_leaf.specs.InputCrowd.{input_crowd}
use Rattle.pop_crowd.specs.declared.crowd.Meeting.{Meeting}
use Rattle.pop_crowd.specs.Crowds.{input_size}
use Rattle.pop_crowd.specs.declared.limits.TheConstants.{AGENT_LEAST}
use Rattle.run_spec.specs.declared.kind.RunKind.TheVariants.{Whole}
use Rattle.run_spec.specs.declared.spec.RunSpec.{RunSpec}
use Rattle.run_picks.proofs.OnlyRun.{only_run}
use Rattle.run_text.specs.Journal.{journal_text}
use Rattle.pop_checker.specs.declared.stable_fault.StableRejected.{StableRejected}
use Rattle.tool_texts.specs.declared.refusal.Refusal.{Refusal}
use Rattle.tool_texts.specs.declared.output.Output.{Output}
use Rattle.tool_texts.specs.Steps.{After}
use Rattle.tool_texts.specs.Lines.{just_two}
use Rattle.tool_texts.proofs.Goes.{one_after}
use Rattle.tool_texts.proofs.SameOutput.{same_output}
use Rattle.cert_json.specs.declared.stable.StableBundle.{StableBundle}
use Rattle.tool_bundles.specs.LastPair.{IsLast}
use Rattle.tool_courses.specs.Course.{Course, course_of}
use Rattle.tool_courses.proofs.ProvedBundles.{same_leaves}
use Rattle.tool_courses.specs.RunOutput.{journal_end, run_ending, IsRunOutput}
use Rattle.tool_runs.specs.Run.{OfJudged, OfBegun, OfLines, RunGives}
use Rattle.tool_bundles.proofs.Begun.{begun_two}
use Rattle.tool_courses.proofs.Ran.{run_tuples}
use Rattle.tool_bundles.proofs.OneLast.{one_last}
use Rattle.tool_rejections.proofs.OneJudged.{one_judged}
use Rattle.tool_bundles.proofs.OneBundle.{one_begin}

module _ (spec : RunSpec) (alone : spec.workers ≡ 1) where
  module _ (lines : List ℕ) where
    one_output : (course : Course) (counts : List ℕ) → length course.rest.leaves ≡ length course.net.leaves → AGENT_LEAST ≤ input_size course.net counts → (x y : Output)
        → IsRunOutput Whole spec lines course counts x → IsRunOutput Whole spec lines course counts y → x ≡ y
    one_output course counts alike two x y p q =
        let net = course.net in
        let start = input_crowd net counts in
        let only = only_run net start spec p.rounds p.end alone p.run q.rounds q.end q.run in
        let tuples = subst (λ (n : ℕ). All (λ (t : Tuple). length t ≡ n) p.end) (sym alike) (run_tuples course.rest net counts two Whole spec p.rounds p.end p.run) in
        let pair = one_last course.rest p.end tuples p.pair q.pair p.last (subst (λ (c : CrowdModel). IsLast course.rest c q.pair) only.1 q.last) in
        same_output x y
        (p.text
        ∙ ap (λ (rounds : List (List Meeting)). lines ++ journal_text Whole net spec rounds p.end (journal_end course.told p.pair)) (sym only.0)
        ∙ ap (λ (end : CrowdModel). lines ++ journal_text Whole net spec q.rounds end (journal_end course.told p.pair)) (sym only.1)
        ∙ ap (λ (o : Option (ℕ × ℕ)). lines ++ journal_text Whole net spec q.rounds q.end (journal_end course.told o)) pair
        ∙ sym q.text)
        (p.ending ∙ ap run_ending pair ∙ sym q.ending)

    of_judged : (bundle : StableBundle) (counts : List ℕ) → AGENT_LEAST ≤ input_size bundle.net counts → (judged : Option StableRejected) (x y : Output)
        → OfJudged Whole spec lines bundle counts judged x → OfJudged Whole spec lines bundle counts judged y → x ≡ y
    of_judged bundle counts two None x y p q = one_output (course_of bundle counts) counts (same_leaves bundle counts) two x y p q
    of_judged bundle counts two (Some rejected) x y p q = p ∙ sym q

    of_begun : (begin : StableBundle × List ℕ) → AGENT_LEAST ≤ input_size begin.0.net begin.1 → (x y : Result Output Refusal) → OfBegun Whole spec lines begin x → OfBegun Whole spec lines begin y → x ≡ y
    of_begun begin two x y p q =
        let judged = one_judged begin.0 p.0 q.0 p.2 q.2 in
        let same = of_judged begin.0 begin.1 two q.0 p.1 q.1 (subst (λ (o : Option StableRejected). OfJudged Whole spec lines begin.0 begin.1 o p.1) judged p.3) q.3 in
        p.4 ∙ ap (λ (o : Output). Ok o) same ∙ sym q.4

  of_lines : (lines : List ℕ × List ℕ) (x y : Result Output Refusal) → OfLines Whole spec lines x → OfLines Whole spec lines y → x ≡ y
  of_lines lines x y p q =
      let text = ended lines.0 ++ ended lines.1 in
      let same = one_begin lines.0 lines.1 p.0 q.0 p.1 q.1 in
      one_after q.0 (OfBegun Whole spec text)
      (λ begin is. of_begun text begin (begun_two q.1.0 lines.1 begin.0 begin.1 (sym q.1.2 ∙ is))) x y
      (subst (λ (r : Result (StableBundle × List ℕ) Refusal). After r (OfBegun Whole spec text) x) same p.2) q.2

pub one_run : (spec : RunSpec) → spec.workers ≡ 1 → (lines : List (List ℕ)) (x y : Result Output Refusal) → RunGives Whole spec lines x → RunGives Whole spec lines y → x ≡ y
one_run spec alone lines x y p q = one_after (just_two lines) (OfLines Whole spec) (λ found is. of_lines spec alone found) x y p q
