-- Runs of either kind that were made and written.
use Rattle.std.specs.Prelude.{◌≡◌, ℕ, List, ◌++◌}
use Rattle.pop_leaf.specs.NetModel.{NetModel}
use Rattle.pop_net.specs.declared.net.Word.{Word}
use Rattle.pop_crowd.specs.declared.crowd.Meeting.{Meeting}
use Rattle.run_spec.specs.declared.kind.RunKind.{RunKind}
use Rattle.run_spec.specs.declared.spec.RunSpec.{RunSpec}
use Rattle.run_picks.specs.declared.alone.End.{End}
use Rattle.run_text.specs.Journal.{run_lines, text_of}
pub use Rattle.pop_watch.specs.RunsOfKind.{IsRoundOf, IsRunOfKind, IsRunOfKindUntil}

-- a run of this kind from a crowd to this end until it is terminal in rest, and its lines after earlier text
pub record IsWrittenRunOfUntil (kind : RunKind) (rest net : NetModel) (crowd : List Word) (spec : RunSpec)
    (before after : List ℕ) (last : List Word) (end : End) : Type 0 where
  pub rounds : List (List Meeting)
  pub run : IsRunOfKindUntil kind rest net crowd spec (record { rounds = rounds; crowd = last; end = end })
  pub text : after ≡ before ++ text_of (run_lines kind spec rounds)
