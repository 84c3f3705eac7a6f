use Rattle.std.proofs.Common.{◌≡◌, ℕ, Bool, List, length, ap, subst, ◌∙◌}
use Rattle.pres_ast.specs.PredicateValue.{predicate_value}
use Rattle.pop_leaf.specs.NetModel.{NetModel, CrowdModel}
use Rattle.pop_net.specs.Lanes.{crowd_of}
use Rattle.pop_leaf.specs.InputCrowd.{input_crowd}
use Rattle.run_picks.specs.Run.{IsRun}
use Rattle.run_text.specs.Journal.{text_of}
use Rattle.run_text.specs.declared.last.Last.{Last}
use Rattle.run_text.specs.declared.last.Last.TheVariants.{Verdict}
use Rattle.pop_demo.specs.DemoCase.{demo_tree, demo_counts, demo_spec}
use Rattle.tool_texts.specs.declared.output.Output.{Output}
use Rattle.tool_texts.specs.declared.output.Ending.{Ending}
use Rattle.tool_bundles.specs.LastPair.{IsLast}
use Rattle.tool_courses.specs.RunOutput.{open_pair, journal_end}
use Rattle.tool_courses.specs.DemoOutput.{summary_lines}
use Rattle.tool_demos.proofs.demo.case_output.Goals as goal

pub summary_of-requires-clause-agents : goal.summary_of-requires-clause-agents
summary_of-requires-clause-agents c =
    c.requires.run.agents ∙ ap (length {A = List ℕ}) (λ i. input_crowd (c.requires.case.net i) (c.requires.case.counts i))

pub summary_of-requires-clause-few : goal.summary_of-requires-clause-few
summary_of-requires-clause-few c = c.requires.run.few

pub returns : goal.returns
returns c =
    let case = c.args.case.now in
    let net = case.checked.net in
    let ran = c.args.run.now in
    let end = crowd_of net ran.crowd in
    let is = c.requires.case in
    let truth : predicate_value case.checked.pred.tree case.counts ≡ predicate_value (demo_tree case.number) (demo_counts case.number) = (λ i. predicate_value (is.pred i).tree (is.counts i)) in
    let value : c.eval.result ≡ predicate_value (demo_tree case.number) (demo_counts case.number) = (rw (c.pred.ensures.value, c.as_slice-counts.ensures) at c.eval.ensures) ∙ truth in
    let last = c.last_and_ending-last.ensures in record {
      rounds = ran.rounds;
      end = end;
      run = subst (λ (t : NetModel × CrowdModel). IsRun t.0 t.1 (demo_spec case.number) ran.rounds end) (λ i. (is.net i, input_crowd (is.net i) (is.counts i))) c.requires.run.run;
      pair = open_pair ran.end;
      last = subst (λ (n : NetModel). IsLast n end (open_pair ran.end)) is.net c.requires.run.last;
      text = ap (λ (o : Output). o.text) c.new.ensures ∙ c.in_ok-text.ensures
          ∙ ap (λ (l : Last × Ending). text_of (summary_lines case.number ran.rounds l.0)) last
          ∙ ap (λ (b : Bool). text_of (summary_lines case.number ran.rounds (journal_end (Verdict b) (open_pair ran.end)))) value;
      ending = ap (λ (o : Output). o.ending) c.new.ensures ∙ ap (λ (l : Last × Ending). l.1) last;
    }
