use Rattle.std.proofs.Common.{◌≡◌, List, ◌++◌, subst, sym, ap, ◌∙◌}
use Rattle.pop_crowd.specs.declared.crowd.Meeting.{Meeting}
use Rattle.run_picks.specs.OneRun.{IsOnlyRunFrom}
use Rattle.run_picks.proofs.KeptAll.{all_kept}
use Rattle.run_picks.proofs.alone.run_alone.Goals as goal

pub returns : goal.returns
returns g c =
    let ran = c.in_ok-crowd.ensures in
    let same : c.from_vec.result ≡ ran.rounds = c.from_vec.ensures ∙ all_kept _ _ 1 ran.rounds ran.taken ∙ ap (λ (l : List (List Meeting)). l ++ ran.rounds) c.new.ensures.items in
    subst (λ (rounds : List (List Meeting)). IsOnlyRunFrom c.args.net.now c.args.crowd c.args.spec.now (record { rounds = rounds; crowd = c.in_ok-crowd.crowd; end = c.in_ok-crowd.end })) (sym same) ran.run
