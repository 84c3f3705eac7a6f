-- Runs of either kind, and their rounds.
use Rattle.std.specs.Prelude.{ℕ, List}
use Rattle.pop_leaf.specs.NetModel.{NetModel}
use Rattle.pop_net.specs.declared.net.Word.{Word}
use Rattle.pop_crowd.specs.declared.crowd.Meeting.{Meeting}
use Rattle.run_spec.specs.declared.kind.RunKind.{RunKind}
use Rattle.run_spec.specs.declared.kind.RunKind.TheVariants.{Whole, Watched}
use Rattle.run_spec.specs.declared.spec.RunSpec.{RunSpec}
use Rattle.run_picks.specs.declared.alone.End.{End}
use Rattle.run_picks.specs.declared.alone.RunEnd.{RunEnd}
use Rattle.pair_workers.specs.declared.round_end.RoundEnd.{RoundEnd}
use Rattle.run_picks.specs.Ends.{IsRunFromUntil}
use Rattle.run_picks.specs.TakenRun.{Step, TakesAll}
use Rattle.pair_workers.specs.WholeRounds.{IsWholeRound}
use Rattle.pop_watch.specs.Playing.{IsWatchedRoundFrom}
use Rattle.pop_watch.specs.WatchedEnds.{IsWatchedRunFromUntil}

-- a round of a run of this kind by the meetings of the second net, which is over once the crowd is terminal in the
-- first
abbrev pub IsRoundOf : RunKind → NetModel → NetModel → List Word → ℕ → ℕ → List (List ℕ) → RoundEnd → Type 0
IsRoundOf Whole rest net crowd workers turns before p = IsWholeRound net crowd workers turns before p
IsRoundOf Watched rest net crowd workers turns before p = IsWatchedRoundFrom rest net crowd workers turns before p

-- such a run from a crowd
abbrev pub IsRunOfKindUntil : RunKind → NetModel → NetModel → List Word → RunSpec → RunEnd → Type 0
IsRunOfKindUntil Whole rest net crowd spec ran = IsRunFromUntil rest net crowd spec ran
IsRunOfKindUntil Watched rest net crowd spec ran = IsWatchedRunFromUntil rest net crowd spec ran

-- a run of this kind up to a terminal crowd
abbrev pub IsRunOfKind : RunKind → NetModel → List Word → RunSpec → RunEnd → Type 0
IsRunOfKind kind net crowd spec ran = IsRunOfKindUntil kind net net crowd spec ran

-- a run of this kind from a crowd to this end until it is terminal in rest, whose rounds were taken
pub record IsTakenRunOf (kind : RunKind) {S : Type 0} (takes : Step S) (rest net : NetModel) (crowd : List Word)
    (spec : RunSpec) (before after : S) (last : List Word) (end : End) : Type 0 where
  pub rounds : List (List Meeting)
  pub run : IsRunOfKindUntil kind rest net crowd spec (record { rounds = rounds; crowd = last; end = end })
  pub taken : TakesAll takes before 1 rounds after
