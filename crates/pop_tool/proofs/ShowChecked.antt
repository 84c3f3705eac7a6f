-- What is shown is what is checked.
use Rattle.std.proofs.Common.{◌≡◌, ℕ, ◌≤◌, Bool, true, false, nat_lt, List, [], ◌∷◌, length, codes, Option, Some, None, Result, Ok, Err, refl, sym, ap, subst, ◌∙◌}
use Rattle.std.specs.Prelude.{◌≢◌, MatchBool}
use Rattle.std.proofs.lemmas.Bool.{ltb-false}
use Rattle.pop_io.specs.declared.whole.TheConstants.{INPUT_LIMIT}
use Rattle.base_lines.specs.Lines.{lines_of}
use Rattle.pop_words.specs.declared.command.Command.TheVariants.{Check, Show}
use Rattle.cert_json.specs.declared.stable.StableBundle.{StableBundle}
use Rattle.pop_checker.specs.declared.stable_fault.StableRejected.{StableRejected}
use Rattle.tool_texts.specs.declared.refusal.Refusal.{Refusal}
use Rattle.tool_texts.specs.declared.refusal.Refusal.TheVariants.{TooLong}
use Rattle.tool_texts.specs.declared.output.Output.{Output}
use Rattle.tool_texts.specs.declared.output.Ending.TheVariants.{Done}
use Rattle.tool_texts.specs.Steps.{After}
use Rattle.tool_texts.specs.Refusals.{output_for}
use Rattle.tool_rejections.specs.Judged.{IsJudged}
use Rattle.tool_rejections.specs.Rejections.{rejection_output}
use Rattle.tool_rejections.proofs.OneJudged.{one_judged}
use Rattle.tool_bundles.specs.Bundles.{IsBundleOf}
use Rattle.tool_bundles.proofs.OneBundle.{one_bundle}
use Rattle.tool_proofs.specs.Check.{answered, OfJudged, OfBundle, CheckGives}
use Rattle.tool_proofs.specs.Show.{shown_text, OfJudged as OfShown, OfBundle as OfShownBundle, ShowGives}
use Rattle.tool_proofs.proofs.Told.{one_text}
use Rattle.pop_tool.specs.ShownChecked.{AreOfBundle, IsShownAsChecked}
use Rattle.pop_tool.proofs.BundleInput.{bundle_line}
use Rattle.pop_tool.proofs.Replies.{given_for}

-- the outputs agree, or one shows what the other says is valid
abbrev Agree : List ℕ → Output → Output → Type 0
Agree input checked shown = (checked.ending ≢ Done → shown ≡ checked) × (checked.ending ≡ Done → AreOfBundle input checked shown)

abbrev Given : List ℕ → Result Output Refusal → Result Output Refusal → Type 0
Given input checked shown = Agree input (output_for checked) (output_for shown)

refused : (input : List ℕ) (refusal : Refusal) (checked shown : Result Output Refusal) → checked ≡ Err refusal → shown ≡ Err refusal → Given input checked shown
refused input refusal checked shown c s =
    ((λ other. ap output_for (s ∙ sym c)), (λ done. absurd (let e = subst (λ (g : Result Output Refusal). (output_for g).ending ≡ Done) c done in cc e)))

module _ (input : List ℕ) where
  judged_agree : (bundle : StableBundle) (line : List ℕ) → length input ≤ INPUT_LIMIT → lines_of input ≡ line ∷ [] → IsBundleOf line (Ok bundle) → (judged : Option StableRejected) → IsJudged bundle judged → (checked shown : Result Output Refusal) → OfJudged bundle judged checked → OfShown bundle judged shown → Given input checked shown
  judged_agree bundle line short one of None valid checked shown (text, told, c) (again, retold, s) =
      let same = one_text bundle.net bundle.proof again text retold told in
      let s_is : shown ≡ Ok (answered (shown_text bundle text)) = s ∙ ap (λ (t : List ℕ). Ok (answered (shown_text bundle t))) same in
      subst (λ (g : Result Output Refusal). Given input g shown) (sym c)
      (subst (λ (g : Result Output Refusal). Given input (Ok (answered text)) g) (sym s_is)
      ((λ other. absurd (other refl)), (λ done. record { bundle = bundle; line = bundle_line input line bundle short one of; valid = valid; lines = refl })))
  judged_agree bundle line short one of (Some rejected) is checked shown c s =
      subst (λ (g : Result Output Refusal). Given input g shown) (sym c)
      (subst (λ (g : Result Output Refusal). Given input (Ok (rejection_output rejected)) g) (sym s) ((λ other. refl), (λ done. absurd (cc done))))

  bundle_agree : (line : List ℕ) → length input ≤ INPUT_LIMIT → lines_of input ≡ line ∷ [] → (r : Result StableBundle Refusal) → IsBundleOf line r → (checked shown : Result Output Refusal) → After r OfBundle checked → After r OfShownBundle shown → Given input checked shown
  bundle_agree line short one (Err refusal) of checked shown c s = refused input refusal checked shown c s
  bundle_agree line short one (Ok bundle) of checked shown c s =
      let same = one_judged bundle s.0 c.0 s.1 c.1 in
      judged_agree bundle line short one of c.0 c.1 checked shown c.2 (subst (λ (o : Option StableRejected). OfShown bundle o shown) same s.2)

  lines_agree : (lines : List (List ℕ)) → length input ≤ INPUT_LIMIT → lines_of input ≡ lines → (checked shown : Result Output Refusal) → CheckGives lines checked → ShowGives lines shown → Given input checked shown
  lines_agree [] short is checked shown c s = refused input _ checked shown c s
  lines_agree (line ∷ []) short is checked shown c s =
      let same = one_bundle line s.0 c.0 s.1 c.1 in
      bundle_agree line short is c.0 c.1 checked shown c.2 (subst (λ (r : Result StableBundle Refusal). After r OfShownBundle shown) same s.2)
  lines_agree (line ∷ second ∷ more) short is checked shown c s = refused input _ checked shown c s

  by_length : (long : Bool) → nat_lt INPUT_LIMIT (length input) ≡ long → (checked shown : Result Output Refusal)
      → MatchBool long (checked ≡ Err TooLong) (CheckGives (lines_of input) checked) → MatchBool long (shown ≡ Err TooLong) (ShowGives (lines_of input) shown) → Given input checked shown
  by_length true is checked shown c s = refused input TooLong checked shown c s
  by_length false is checked shown c s = lines_agree (lines_of input) (ltb-false INPUT_LIMIT (length input) is) refl checked shown c s

pub shown_as_checked : IsShownAsChecked
shown_as_checked input checked shown check show =
    let c = given_for (codes "check" ∷ []) Check input checked refl check in
    let s = given_for (codes "show" ∷ []) Show input shown refl show in
    subst (λ (o : Output). Agree input o shown) (sym c.2)
    (subst (λ (o : Output). Agree input (output_for c.0) o) (sym s.2) (by_length input (nat_lt INPUT_LIMIT (length input)) refl c.0 s.0 c.1 s.1))
