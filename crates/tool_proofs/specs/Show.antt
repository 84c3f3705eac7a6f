-- What `show` makes of the line of its input: a bundle.
use Rattle.std.specs.Prelude.{◌≡◌, ℕ, List, ◌++◌, Option, Some, None, Result, Ok}
use Rattle.cert_json.specs.declared.stable.StableBundle.{StableBundle}
use Rattle.pop_checker.specs.declared.stable_fault.StableRejected.{StableRejected}
use Rattle.cert_show.specs.Lines.{text_of}
use Rattle.cert_show.specs.Shown.{shown_of}
use Rattle.tool_texts.specs.declared.refusal.Refusal.{Refusal}
use Rattle.tool_texts.specs.declared.output.Output.{Output}
use Rattle.tool_texts.specs.Steps.{After}
use Rattle.tool_texts.specs.Lines.{just_one}
use Rattle.tool_rejections.specs.Rejections.{rejection_output}
use Rattle.tool_rejections.specs.Judged.{IsJudged}
use Rattle.tool_bundles.specs.Bundles.{IsBundleOf}
use Rattle.tool_proofs.specs.Certified.{AreValidLines}
use Rattle.tool_proofs.specs.Check.{answered}

-- the lines of `check`, and what is shown of the bundle
abbrev pub shown_text : StableBundle → List ℕ → List ℕ
shown_text bundle checked = checked ++ text_of (shown_of bundle.net bundle.pred bundle.proof)

-- the bundle is shown
abbrev pub GivesShown : StableBundle → Result Output Refusal → Type 0
GivesShown bundle given =
    (checked : List ℕ) × AreValidLines bundle.net bundle.proof checked
    × (given ≡ Ok (answered (shown_text bundle checked)))

-- that is given, or the first part of the proof that is not valid, as by `check`
abbrev pub OfJudged : StableBundle → Option StableRejected → Result Output Refusal → Type 0
OfJudged bundle None given = GivesShown bundle given
OfJudged bundle (Some rejected) given = given ≡ Ok (rejection_output rejected)

abbrev pub OfBundle : StableBundle → Result Output Refusal → Type 0
OfBundle bundle given = (judged : Option StableRejected) × IsJudged bundle judged × OfJudged bundle judged given

abbrev pub OfLine : List ℕ → Result Output Refusal → Type 0
OfLine line given = (bundle : Result StableBundle Refusal) × IsBundleOf line bundle × After bundle OfBundle given

-- what `show` gives for the lines of its input
abbrev pub ShowGives : List (List ℕ) → Result Output Refusal → Type 0
ShowGives lines given = After (just_one lines) OfLine given
