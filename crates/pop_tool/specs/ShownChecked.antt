-- What `show` prints beside what `check` prints.
use Rattle.std.specs.Prelude.{◌≡◌, ◌≢◌, ℕ, List, [], ◌∷◌, codes}
use Rattle.cert_json.specs.declared.stable.StableBundle.{StableBundle}
use Rattle.tool_texts.specs.declared.output.Output.{Output}
use Rattle.tool_texts.specs.declared.output.Ending.TheVariants.{Done}
use Rattle.tool_proofs.specs.Check.{answered}
use Rattle.tool_proofs.specs.Show.{shown_text}
use Rattle.pop_tool.specs.Answer.{Answer}
use Rattle.pop_tool.specs.Headline.{IsBundleLine, HasValidProof}

-- the input is the line of a bundle with a valid proof, of which one output says so, and the other shows it
pub record AreOfBundle (input : List ℕ) (checked shown : Output) : Type 0 where
  pub bundle : StableBundle
  pub line : IsBundleLine input bundle
  pub valid : HasValidProof bundle
  pub lines : shown ≡ answered (shown_text bundle checked.text)

-- For one input: whatever else `check` says, `show` says too, and where `check` says `certified` or `stable`, `show` adds
-- the lines.
abbrev pub IsShownAsChecked : Type 0
IsShownAsChecked =
    (input : List ℕ) (checked shown : Output) → Answer (codes "check" ∷ []) input checked
    → Answer (codes "show" ∷ []) input shown
    → (checked.ending ≢ Done → shown ≡ checked) × (checked.ending ≡ Done → AreOfBundle input checked shown)
