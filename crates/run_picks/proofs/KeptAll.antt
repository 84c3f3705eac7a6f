-- The rounds that were kept are those that were taken.
use Rattle.std.proofs.Common.{◌≡◌, ℕ, ◌+◌, List, [], ◌∷◌, ◌++◌, ap, sym, ◌∙◌, append-nil, append_assoc}
use Rattle.pop_crowd.specs.declared.crowd.Meeting.{Meeting}
use Rattle.run_picks.specs.declared.alone.KeptRounds.{KeptRounds}
use Rattle.run_picks.specs.TakenRun.{TakesAll}
use Rattle.run_picks.specs.Kept.{keeps_round}

pub all_kept : (before after : KeptRounds) (n : ℕ) (rounds : List (List Meeting)) → TakesAll keeps_round before n rounds after → after.rounds.items ≡ before.rounds.items ++ rounds
all_kept before after n [] taken = ap (λ (k : KeptRounds). k.rounds.items) taken ∙ sym (append-nil before.rounds.items)
all_kept before after n (round ∷ rounds) taken =
    all_kept taken.0 after (n + 1) rounds taken.2 ∙ ap (λ (l : List (List Meeting)). l ++ rounds) taken.1 ∙ append_assoc before.rounds.items (round ∷ []) rounds
