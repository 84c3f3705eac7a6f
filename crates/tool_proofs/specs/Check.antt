-- What `check` makes of the line of its input: a bundle.
use Rattle.std.specs.Prelude.{◌≡◌, ℕ, List, Option, Some, None, Result, Ok}
use Rattle.cert_json.specs.declared.stable.StableBundle.{StableBundle}
use Rattle.pop_checker.specs.declared.stable_fault.StableRejected.{StableRejected}
use Rattle.tool_texts.specs.declared.refusal.Refusal.{Refusal}
use Rattle.tool_texts.specs.declared.output.Output.{Output}
use Rattle.tool_texts.specs.declared.output.Ending.TheVariants.{Done}
use Rattle.tool_texts.specs.Steps.{After}
use Rattle.tool_texts.specs.Lines.{just_one}
use Rattle.tool_rejections.specs.Rejections.{rejection_output}
use Rattle.tool_rejections.specs.Judged.{IsJudged}
use Rattle.tool_bundles.specs.Bundles.{IsBundleOf}
use Rattle.tool_proofs.specs.Certified.{AreValidLines}

-- a text that is given as an answer
abbrev pub answered : List ℕ → Output
answered text = record { text = text; ending = Done }

-- the lines of the valid proof are given
abbrev pub GivesValid : StableBundle → Result Output Refusal → Type 0
GivesValid bundle given =
    (text : List ℕ) × AreValidLines bundle.net bundle.proof text × (given ≡ Ok (answered text))

-- these lines, or the first part of the proof that is not valid
abbrev pub OfJudged : StableBundle → Option StableRejected → Result Output Refusal → Type 0
OfJudged bundle None given = GivesValid bundle given
OfJudged bundle (Some rejected) given = given ≡ Ok (rejection_output rejected)

abbrev pub OfBundle : StableBundle → Result Output Refusal → Type 0
OfBundle bundle given = (judged : Option StableRejected) × IsJudged bundle judged × OfJudged bundle judged given

abbrev pub OfLine : List ℕ → Result Output Refusal → Type 0
OfLine line given = (bundle : Result StableBundle Refusal) × IsBundleOf line bundle × After bundle OfBundle given

-- what `check` gives for the lines of its input
abbrev pub CheckGives : List (List ℕ) → Result Output Refusal → Type 0
CheckGives lines given = After (just_one lines) OfLine given
