-- A replay accepts what a run of its kind wrote.
use Rattle.std.specs.Prelude.{◌≡◌, ℕ, ◌≤◌, List, [], ◌∷◌, length, codes, Ok}
use Rattle.pop_io.specs.declared.whole.TheConstants.{INPUT_LIMIT}
use Rattle.run_spec.specs.declared.kind.RunKind.{RunKind}
use Rattle.run_spec.specs.declared.kind.RunKind.TheVariants.{Whole, Watched}
use Rattle.run_spec.specs.declared.spec.RunSpec.{RunSpec}
use Rattle.pop_words.specs.Words.{meaning_of, run_command}
use Rattle.tool_texts.specs.declared.output.Output.{Output}
use Rattle.tool_texts.specs.Statuses.{status_of}
use Rattle.tool_replays.specs.Replay.{holds_output}
use Rattle.pop_tool.specs.Answer.{Answer}
use Rattle.pop_tool.specs.Headline.{WasRun}

-- the words that replay a journal of a run of this kind
abbrev pub replay_words : RunKind → List (List ℕ)
replay_words Whole = codes "replay" ∷ []
replay_words Watched = codes "replay" ∷ codes "--watched" ∷ []

-- Suppose a run was made, and its text isn't too long for an input. Then `replay` answers this text with `holds`; for a
-- run of `watch` it is given `--watched`.
abbrev pub IsReplayHeld : Type 0
IsReplayHeld =
    (kind : RunKind) (words : List (List ℕ)) (spec : RunSpec) (input : List ℕ) (written answer : Output)
    → meaning_of words ≡ Ok (run_command kind spec)
    → Answer words input written → WasRun (status_of written.ending) → length written.text ≤ INPUT_LIMIT
    → Answer (replay_words kind) written.text answer → (k : ℕ) × (answer ≡ holds_output k)
