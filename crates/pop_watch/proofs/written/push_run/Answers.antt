use Rattle.std.proofs.Common.{List, ℕ, ◌++◌, ap, ◌∙◌}
use Rattle.run_text.specs.Journal.{round_lines, text_of}
use Rattle.run_text.proofs.MadeAlone.{ended_text}
use Rattle.pop_watch.proofs.WrittenAll.{all_written}
use Rattle.pop_watch.proofs.written.push_run.Goals as goal

pub returns : goal.returns
returns g c =
    let ran = c.in_ok-crowd.ensures in
    let so_far = all_written _ _ 1 ran.rounds ran.taken ∙ ap (λ (t : List ℕ). t ++ text_of (round_lines 1 ran.rounds)) c.in_ok-written.ensures in
    record {
      rounds = ran.rounds;
      run = ran.run;
      text = ended_text c.args.kind c.args.run.now.spec.now c.args.text.items _ _ ran.rounds so_far c.in_ok-text.ensures;
    }
