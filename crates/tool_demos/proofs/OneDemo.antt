-- The run of a demo case has one summary.
use Rattle.std.proofs.Common.{◌≡◌, ℕ, List, Option, Result, Ok, refl, sym, ap, subst, ◌∙◌}
use Rattle.pop_leaf.specs.NetModel.{CrowdModel}
use Rattle.pop_crowd.specs.declared.crowd.Meeting.{Meeting}
use Rattle.run_spec.specs.declared.kind.RunKind.TheVariants.{Whole}
use Rattle.run_picks.proofs.OnlyRun.{only_run}
use Rattle.pres_ast.specs.PredicateValue.{predicate_value}
use Rattle.run_text.specs.Journal.{text_of}
use Rattle.run_text.specs.declared.last.Last.TheVariants.{Verdict}
use Rattle.pop_demo.specs.DemoCase.{demo_tree, demo_counts, demo_spec}
use Rattle.tool_texts.specs.declared.refusal.Refusal.{Refusal}
use Rattle.tool_texts.specs.declared.output.Output.{Output}
use Rattle.tool_bundles.specs.LastPair.{IsLast}
use Rattle.tool_courses.specs.RunOutput.{journal_end, run_ending}
use Rattle.tool_courses.specs.DemoOutput.{demo_net, demo_start, summary_lines, IsDemoOutput}
use Rattle.tool_demos.specs.Demo.{DemoGives}
use Rattle.tool_demos.proofs.DemoCases.{some_agents}
use Rattle.tool_courses.proofs.Ran.{run_tuples}
use Rattle.tool_bundles.proofs.OneLast.{one_last}
use Rattle.tool_texts.proofs.SameOutput.{same_output}

one_summary : (number : ℕ) (x y : Output) → IsDemoOutput number x → IsDemoOutput number y → x ≡ y
one_summary number x y p q =
    let net = demo_net number in
    let told = Verdict (predicate_value (demo_tree number) (demo_counts number)) in
    let only = only_run net (demo_start number) (demo_spec number) p.rounds p.end refl p.run q.rounds q.end q.run in
    let tuples = run_tuples net net (demo_counts number) (some_agents number) Whole (demo_spec number) p.rounds p.end p.run in
    let pair = one_last net p.end tuples p.pair q.pair p.last (subst (λ (c : CrowdModel). IsLast net c q.pair) only.1 q.last) in
    same_output x y
    (p.text
    ∙ ap (λ (rounds : List (List Meeting)). text_of (summary_lines number rounds (journal_end told p.pair))) (sym only.0)
    ∙ ap (λ (o : Option (ℕ × ℕ)). text_of (summary_lines number q.rounds (journal_end told o))) pair
    ∙ sym q.text)
    (p.ending ∙ ap run_ending pair ∙ sym q.ending)

pub one_demo : (number : ℕ) (x y : Result Output Refusal) → DemoGives number x → DemoGives number y → x ≡ y
one_demo number x y p q = p.2 ∙ ap (λ (o : Output). Ok o) (one_summary number p.0 q.0 p.1 q.1) ∙ sym q.2
