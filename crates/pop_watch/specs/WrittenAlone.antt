-- A run by one worker that was made and written.
use Rattle.std.specs.Prelude.{◌≡◌, ℕ, List, ◌++◌}
use Rattle.pop_leaf.specs.NetModel.{NetModel}
use Rattle.pop_net.specs.declared.net.Word.{Word}
use Rattle.pop_crowd.specs.declared.crowd.Meeting.{Meeting}
use Rattle.run_spec.specs.declared.kind.RunKind.TheVariants.{Whole}
use Rattle.run_spec.specs.declared.spec.RunSpec.{RunSpec}
use Rattle.run_picks.specs.declared.alone.End.{End}
use Rattle.run_picks.specs.OneRun.{IsOnlyRunFromUntil}
use Rattle.run_text.specs.Journal.{run_lines, text_of}

-- a run from a crowd to this end until it is terminal in rest, which is the only one, and its lines after earlier text
pub record IsWrittenRunUntil (rest net : NetModel) (crowd : List Word) (spec : RunSpec) (before after : List ℕ)
    (last : List Word) (end : End) : Type 0 where
  pub rounds : List (List Meeting)
  pub run : IsOnlyRunFromUntil rest net crowd spec (record { rounds = rounds; crowd = last; end = end })
  pub text : after ≡ before ++ text_of (run_lines Whole spec rounds)
