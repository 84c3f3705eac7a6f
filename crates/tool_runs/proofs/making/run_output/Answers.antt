use Rattle.std.proofs.Common.{◌++◌, ap, ◌∙◌}
use Rattle.pop_net.specs.Lanes.{crowd_of}
use Rattle.run_text.specs.Journal.{journal_text}
use Rattle.run_text.specs.declared.last.Last.{Last}
use Rattle.run_text.proofs.Texts.{journal_ended}
use Rattle.tool_texts.specs.declared.output.Ending.{Ending}
use Rattle.tool_texts.specs.declared.output.Output.{Output}
use Rattle.tool_courses.specs.RunOutput.{open_pair}
use Rattle.tool_courses.specs.Prepared.{course_at}
use Rattle.tool_runs.proofs.making.run_output.Goals as goal

pub push_end-requires : goal.push_end-requires
push_end-requires c = rw c.net.ensures c.requires.written.1.run.valid

pub returns : goal.returns
returns c = λ lines made.
    let setting = c.args.setting.now in
    let net = (course_at setting).net in
    let end = crowd_of net c.args.crowd.now in
    let last = rw (c.last-told.ensures, c.as_slice.ensures) at c.last_and_ending-last.ensures in
    let whole = journal_ended setting.kind net setting.spec made.rounds end c.last_and_ending-last.result.0 lines c.args.text.items c.push_end.new.text.items made.text (rw c.net.ensures at c.in_ok-push_end.ensures) in
    record {
      input = made.run.input;
      rounds = made.rounds;
      end = end;
      run = made.run.run;
      pair = open_pair c.args.end;
      last = made.run.last;
      text = ap (λ (o : Output). o.text) c.new.ensures ∙ whole
          ∙ ap (λ (l : Last × Ending). lines ++ journal_text setting.kind net setting.spec made.rounds end l.0) last;
      ending = ap (λ (o : Output). o.ending) c.new.ensures ∙ ap (λ (l : Last × Ending). l.1) last;
    }
