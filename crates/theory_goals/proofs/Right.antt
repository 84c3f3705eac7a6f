-- A net whose leaves have goals is stably right.
use Rattle.std.proofs.Common.{ℕ, List}
use Rattle.pop_leaf.specs.Step.{TupleChange}
use Rattle.theory_fair.specs.StablyComputes.{Reacts}
use Rattle.theory_fair.specs.Synchronous.{AllReact}
use Rattle.theory_fair.proofs.Reached.{reacts_changes}
use Rattle.theory_fair.proofs.Synchronous.{react_changes}
use Rattle.theory_goals.specs.Laws.{LeafGoalsJoin}
use Rattle.theory_nets.proofs.Led.{own_changes}
use Rattle.theory_nets.proofs.Moves.{steps_can, synchronous_can, meetings_can}
use Rattle.theory_goals.specs.LeafGoals.{parts_bound}
use Rattle.theory_goals.proofs.JoinedGoals.{comes, fairly}
use Rattle.theory_goals.proofs.Random.{rest_randomly}

pub join_right : (Goals : ℕ → List ℕ → List ℕ → Type 0) → LeafGoalsJoin Goals
join_right Goals net tree parts is has =
    record {
      computes = comes net is tree parts Goals has (TupleChange net) (own_changes net) (steps_can net);
      synchronous = comes net is tree parts Goals has (AllReact net) (react_changes net) (synchronous_can net);
      settles = λ single. comes net is tree parts Goals has (Reacts net) (reacts_changes net) (meetings_can net single);
      fair = fairly net is tree parts Goals has (TupleChange net) (own_changes net) (steps_can net);
      fair_synchronous = fairly net is tree parts Goals has (AllReact net) (react_changes net) (synchronous_can net);
      fair_meetings = λ single. fairly net is tree parts Goals has (Reacts net) (reacts_changes net) (meetings_can net single);
      random = λ single. rest_randomly net tree (parts_bound parts) (comes net is tree parts Goals has (Reacts net) (reacts_changes net) (meetings_can net single));
    }
