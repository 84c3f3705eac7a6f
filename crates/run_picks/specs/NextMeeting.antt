-- The next meeting of a worker.
use Rattle.std.specs.Prelude.{◌≡◌, ℕ, List, length}
use Rattle.pop_leaf.specs.NetModel.{NetModel}
use Rattle.pop_net.specs.declared.net.Word.{Word}
use Rattle.pop_crowd.specs.declared.crowd.Meeting.{Meeting}
use Rattle.pop_crowd.specs.Calls.{HasMet}
use Rattle.run_picks.specs.Picks.{IsNextPick}

-- a worker's picker has picked two agents, and they have met
pub record HasMetNext (net : NetModel) (worker : ℕ) (meeting : Meeting) (before after : List Word)
    (picker next : List ℕ) : Type 0 where
  pub own : meeting.worker ≡ worker
  pub picked : IsNextPick (length before) picker next (meeting.a, meeting.b)
  pub met : HasMet net meeting.a meeting.b meeting.changed before after
