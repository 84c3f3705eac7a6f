-- A run by one worker whose rounds were given away, one after the other.
use Rattle.std.specs.Prelude.{◌≡◌, ℕ, ◌+◌, List, [], ◌∷◌}
use Rattle.pop_leaf.specs.NetModel.{NetModel}
use Rattle.pop_net.specs.declared.net.Word.{Word}
use Rattle.pop_crowd.specs.declared.crowd.Meeting.{Meeting}
use Rattle.run_spec.specs.declared.spec.RunSpec.{RunSpec}
use Rattle.run_picks.specs.declared.alone.End.{End}
use Rattle.run_picks.specs.OneRun.{IsOnlyRunFromUntil}

-- what is given away in one step, of a type S: what it was before, the round's number and meetings, and what it is
-- after
abbrev pub Step : Type 0 → Type 1
Step S = S → ℕ → List Meeting → S → Type 0

-- these rounds, numbered from n on, lead from one S to the other
abbrev pub TakesAll : {S : Type 0} → Step S → S → ℕ → List (List Meeting) → S → Type 0
TakesAll takes before n [] after = after ≡ before
TakesAll takes before n (round ∷ rounds) after = (between : _) × takes before n round between × TakesAll takes between (n + 1) rounds after

-- a run from a crowd to this end until it is terminal in rest, which is the only one, and whose rounds were taken
pub record IsTakenRunUntil {S : Type 0} (takes : Step S) (rest net : NetModel) (crowd : List Word) (spec : RunSpec)
    (before after : S) (last : List Word) (end : End) : Type 0 where
  pub rounds : List (List Meeting)
  pub run : IsOnlyRunFromUntil rest net crowd spec (record { rounds = rounds; crowd = last; end = end })
  pub taken : TakesAll takes before 1 rounds after
