-- What a printed text of `check` says of a bundle.
use Rattle.std.proofs.Common.{◌≡◌, ℕ, ◌≤◌, Bool, true, false, nat_lt, List, [], ◌∷◌, length, Option, Some, None, Result, Ok, Err, refl, sym, ap, subst, ◌∙◌, arith}
use Rattle.std.specs.Prelude.{Decides, MatchBool}
use Rattle.std.proofs.lemmas.Bool.{le-ltb, ltb-false}
use Rattle.pop_io.specs.declared.whole.TheConstants.{INPUT_LIMIT}
use Rattle.base_lines.specs.Lines.{lines_of, ended}
use Rattle.pop_words.specs.declared.command.Command.TheVariants.{Check}
use Rattle.cert_base.specs.declared.proof.Proof.{Proof}
use Rattle.cert_base.specs.ProofBound.{proof_bound}
use Rattle.cert_json.specs.declared.stable.StableBundle.{StableBundle}
use Rattle.pop_checker.specs.TameEach.{AreTameInTimeEach}
use Rattle.pop_checker.specs.declared.stable_fault.StableRejected.{StableRejected}
use Rattle.pop_checker.specs.ValidStable.{stable_bound}
use Rattle.pop_checker.specs.Silent.{is_silent}
use Rattle.pop_checker.proofs.OneStableFault.{none_stable_rejected}
use Rattle.tool_texts.specs.declared.refusal.Refusal.{Refusal}
use Rattle.tool_texts.specs.declared.refusal.Refusal.TheVariants.{TooLong}
use Rattle.tool_texts.specs.declared.output.Output.{Output}
use Rattle.tool_texts.specs.declared.status.Status.{Status}
use Rattle.tool_texts.specs.declared.status.Status.TheVariants.{Done, Rejected}
use Rattle.tool_texts.specs.Statuses.{status_of}
use Rattle.tool_texts.specs.Steps.{After}
use Rattle.tool_texts.specs.Lines.{just_one}
use Rattle.tool_texts.specs.Refusals.{refusal_text, output_for}
use Rattle.tool_rejections.specs.Judged.{IsJudged}
use Rattle.tool_rejections.specs.Rejections.{rejected_text, rejection_output}
use Rattle.tool_bundles.specs.Bundles.{IsBundleOf}
use Rattle.tool_proofs.specs.Certified.{certified_lines, stable_text, AreCertifiedLines, AreValidLines}
use Rattle.tool_proofs.specs.Check.{answered, OfJudged, OfBundle, OfLine, CheckGives}
use Rattle.pop_tool.specs.Answer.{InputGives}
use Rattle.pop_tool.specs.Headline.{IsBundleLine, HasValidProof, silent_in, CheckSays, StableSays, IsSilentlyValid, IsValidLine, IsTameLine, IsValidStableLine}
use Rattle.pop_tool.proofs.BundleInput.{bundle_line, line_read}
use Rattle.pop_tool.proofs.SilentBundles.{file_stable, silently_valid, stably_valid, file_right, tame_settles}
use Rattle.pop_tool.proofs.TwoLines.{not_alone}
use Rattle.pop_tool.proofs.FirstBytes.{first_byte, refusal_begins, rejection_begins}

-- `certified` begins with a c, with and without the second line, and `stable` with an s
certified_begins : (k : ℕ) (tame : Bool) → first_byte (certified_lines k tame) ≡ 99
unfolding first_byte
certified_begins k true = refl
certified_begins k false = refl

stable_begins : (k : ℕ) → first_byte (ended (stable_text k)) ≡ 115
unfolding first_byte
stable_begins k = refl

-- a refusal begins with an f, and a rejection with an r
not_refusal : (refusal : Refusal) (k : ℕ) (tame : Bool) → ended (refusal_text refusal) ≡ certified_lines k tame → ⊥
not_refusal refusal k tame e =
    let b : 102 ≡ 99 = sym (refusal_begins refusal) ∙ ap first_byte e ∙ certified_begins k tame in absurd (omega (arith, b))

not_rejection : (rejected : StableRejected) (k : ℕ) (tame : Bool) → ended (rejected_text rejected) ≡ certified_lines k tame → ⊥
not_rejection rejected k tame e =
    let b : 114 ≡ 99 = sym (rejection_begins rejected) ∙ ap first_byte e ∙ certified_begins k tame in absurd (omega (arith, b))

not_refused_stable : (refusal : Refusal) (k : ℕ) → ended (refusal_text refusal) ≡ ended (stable_text k) → ⊥
not_refused_stable refusal k e =
    let b : 102 ≡ 115 = sym (refusal_begins refusal) ∙ ap first_byte e ∙ stable_begins k in absurd (omega (arith, b))

not_rejected_stable : (rejected : StableRejected) (k : ℕ) → ended (rejected_text rejected) ≡ ended (stable_text k) → ⊥
not_rejected_stable rejected k e =
    let b : 114 ≡ 115 = sym (rejection_begins rejected) ∙ ap first_byte e ∙ stable_begins k in absurd (omega (arith, b))

not_both : (k : ℕ) (tame : Bool) (n : ℕ) → certified_lines k tame ≡ ended (stable_text n) → ⊥
not_both k tame n e =
    let b : 99 ≡ 115 = sym (certified_begins k tame) ∙ ap first_byte e ∙ stable_begins n in absurd (omega (arith, b))

-- the lines of a valid proof, by its kind
pub silent_lines : (bundle : StableBundle) (text : List ℕ) → is_silent bundle.proof ≡ true → AreValidLines bundle.net bundle.proof text → AreCertifiedLines bundle.net (silent_in bundle) text
silent_lines bundle text silent told =
    subst (λ (b : Bool). MatchBool b (AreCertifiedLines bundle.net (silent_in bundle) text) (text ≡ ended (stable_text (stable_bound bundle.proof)))) silent told

pub goal_line : (bundle : StableBundle) (text : List ℕ) → is_silent bundle.proof ≡ false → AreValidLines bundle.net bundle.proof text → text ≡ ended (stable_text (stable_bound bundle.proof))
goal_line bundle text goals told =
    subst (λ (b : Bool). MatchBool b (AreCertifiedLines bundle.net (silent_in bundle) text) (text ≡ ended (stable_text (stable_bound bundle.proof)))) goals told

-- whether the second line is there
pub told_by : (K k : ℕ) (X : Type 0) (t : Bool) → Decides t X → certified_lines K t ≡ certified_lines k true → X
told_by K k X true d e = d.0 refl
told_by K k X false d e = absurd (not_alone K k e)

-- ---- what is said of the line of a bundle

-- by the kind of its proof
pub record BothSay (bundle : StableBundle) (text : List ℕ) (status : Status) : Type 0 where
  pub silent : is_silent bundle.proof ≡ true → CheckSays bundle.net bundle.pred (silent_in bundle) text status
  pub goals : is_silent bundle.proof ≡ false → StableSays bundle text status

module _ (input : List ℕ) (bundle : StableBundle) (line : IsBundleLine input bundle) (text : List ℕ) where
  module _ (valid : HasValidProof bundle) (told : AreValidLines bundle.net bundle.proof text) where
    silent_says : is_silent bundle.proof ≡ true → CheckSays bundle.net bundle.pred (silent_in bundle) text Done
    silent_says silent =
        let proof : Proof = silent_in bundle in
        let lines = silent_lines bundle text silent told in
        let is = silently_valid bundle silent valid in
        let tame_is = told_by (proof_bound proof) (proof_bound proof) (AreTameInTimeEach bundle.net proof) lines.0 lines.1 in
        record {
          certified = ((λ p. is), (λ v. (lines.0, lines.2, refl)));
          right = λ v. file_right bundle silent line.value line.file valid;
          tame = ((λ p. (is, tame_is (sym lines.2 ∙ p.0))), (λ both. (lines.2 ∙ ap (certified_lines (proof_bound proof)) (lines.1.1 both.1), refl)));
          settles = λ p. tame_settles bundle silent line.value line.file valid (tame_is (sym lines.2 ∙ p.0));
        }

    goals_say : is_silent bundle.proof ≡ false → StableSays bundle text Done
    goals_say goals =
        record {
          stable = ((λ p. valid), (λ v. (goal_line bundle text goals told, refl)));
          right = λ v. file_stable bundle line.value line.file valid;
        }

    valid_says : BothSay bundle text Done
    valid_says = record { silent = silent_says; goals = goals_say }

  rejected_says : (rejected : StableRejected) → IsJudged bundle (Some rejected) → BothSay bundle text Rejected
  rejected_says rejected is =
      record {
        silent = λ silent. record {
          certified = ((λ p. absurd (cc (p.2))), (λ v. absurd (never (stably_valid bundle silent v))));
          right = λ v. absurd (never (stably_valid bundle silent v));
          tame = ((λ p. absurd (cc (p.1))), (λ both. absurd (never (stably_valid bundle silent both.0))));
          settles = λ p. absurd (cc (p.1));
        };
        goals = λ goals. record { stable = ((λ p. absurd (cc (p.1))), (λ v. absurd (never v))); right = λ v. absurd (never v) };
      }
    where
      never : HasValidProof bundle → ⊥
      never valid = none_stable_rejected bundle.net bundle.pred bundle.proof rejected valid is

abbrev Says : StableBundle → Result Output Refusal → Type 0
Says bundle given = BothSay bundle (output_for given).text (status_of (output_for given).ending)

judged_says : (input : List ℕ) (bundle : StableBundle) → IsBundleLine input bundle → (judged : Option StableRejected) → IsJudged bundle judged → (given : Result Output Refusal) → OfJudged bundle judged given → Says bundle given
judged_says input bundle line None valid given (text, told, is) = subst (Says bundle) (sym is) (valid_says input bundle line text valid told)
judged_says input bundle line (Some rejected) judged given is =
    subst (Says bundle) (sym is) (rejected_says input bundle line (rejection_output rejected).text rejected judged)

pub short_lines : (input : List ℕ) (given : Result Output Refusal) → length input ≤ INPUT_LIMIT → InputGives Check input given → CheckGives (lines_of input) given
short_lines input given short is = rw (le-ltb INPUT_LIMIT (length input) short) at is

-- what is given for the line of a bundle
pub check_says : (input : List ℕ) (bundle : StableBundle) (given : Result Output Refusal) → IsBundleLine input bundle → InputGives Check input given → BothSay bundle (output_for given).text (status_of (output_for given).ending)
check_says input bundle given line is =
    let of_line : OfLine line.line given = subst (λ (ls : List (List ℕ)). After (just_one ls) OfLine given) line.lines (short_lines input given line.short is) in
    let read : of_line.0 ≡ Ok bundle = of_line.1.2 ∙ line_read input bundle line of_line.1.0 of_line.1.1 in
    let of_bundle : OfBundle bundle given = subst (λ (r : Result StableBundle Refusal). After r OfBundle given) read of_line.2 in
    judged_says input bundle line of_bundle.0 of_bundle.1 given of_bundle.2

-- ---- what was given for a valid proof

-- the lines of a valid proof in the line of a bundle
record IsToldValid (input : List ℕ) (given : Result Output Refusal) : Type 0 where
  bundle : StableBundle
  line : IsBundleLine input bundle
  valid : HasValidProof bundle
  text : List ℕ
  told : AreValidLines bundle.net bundle.proof text
  is : given ≡ Ok (answered text)

module _ (input : List ℕ) (given : Result Output Refusal) (kept : (refusal : Refusal) → given ≡ Err refusal → ⊥) (right : (rejected : StableRejected) → given ≡ Ok (rejection_output rejected) → ⊥) where
  judged_told : (bundle : StableBundle) → IsBundleLine input bundle → (judged : Option StableRejected) → IsJudged bundle judged → OfJudged bundle judged given → IsToldValid input given
  judged_told bundle line None valid (text, told, is) = record { bundle = bundle; line = line; valid = valid; text = text; told = told; is = is }
  judged_told bundle line (Some rejected) judged is = absurd (right rejected is)

  bundle_told : (line : List ℕ) → length input ≤ INPUT_LIMIT → lines_of input ≡ line ∷ [] → (r : Result StableBundle Refusal) → IsBundleOf line r → After r OfBundle given → IsToldValid input given
  bundle_told line short one (Err refusal) of is = absurd (kept refusal is)
  bundle_told line short one (Ok bundle) of is = judged_told bundle (bundle_line input line bundle short one of) is.0 is.1 is.2

  lines_told : (lines : List (List ℕ)) → length input ≤ INPUT_LIMIT → lines_of input ≡ lines → CheckGives lines given → IsToldValid input given
  lines_told [] short is of = absurd (kept _ of)
  lines_told (line ∷ []) short is of = bundle_told line short is of.0 of.1 of.2
  lines_told (line ∷ second ∷ more) short is of = absurd (kept _ of)

  by_length : (long : Bool) → nat_lt INPUT_LIMIT (length input) ≡ long → MatchBool long (given ≡ Err TooLong) (CheckGives (lines_of input) given) → IsToldValid input given
  by_length true is of = absurd (kept TooLong of)
  by_length false is of = lines_told (lines_of input) (ltb-false INPUT_LIMIT (length input) is) refl of

  told_valid : InputGives Check input given → IsToldValid input given
  told_valid is = by_length (nat_lt INPUT_LIMIT (length input)) refl is

-- ---- `certified`

abbrev Printed : Result Output Refusal → List ℕ → Type 0
Printed given text = (output_for given).text ≡ text

-- a valid proof, and tame layers if `tame` is printed
record IsPrintedLine (input : List ℕ) (tame : Bool) : Type 0 where
  bundle : StableBundle
  line : IsBundleLine input bundle
  stably : HasValidProof bundle
  valid : IsSilentlyValid bundle
  told : tame ≡ true → AreTameInTimeEach bundle.net (silent_in bundle)

module _ (k : ℕ) (tame : Bool) (input : List ℕ) (given : Result Output Refusal) (is : InputGives Check input given) (printed : Printed given (certified_lines k tame)) where
  told : IsToldValid input given
  told =
      told_valid input given
      (λ refusal e. not_refusal refusal k tame (subst (λ (g : Result Output Refusal). Printed g (certified_lines k tame)) e printed))
      (λ rejected e. not_rejection rejected k tame (subst (λ (g : Result Output Refusal). Printed g (certified_lines k tame)) e printed)) is

  same_text : told.text ≡ certified_lines k tame
  same_text = subst (λ (g : Result Output Refusal). Printed g (certified_lines k tame)) told.is printed

  tame_told : (t : Bool) → Decides t (AreTameInTimeEach told.bundle.net (silent_in told.bundle)) → certified_lines (proof_bound (silent_in told.bundle)) t ≡ certified_lines k tame → tame ≡ true → AreTameInTimeEach told.bundle.net (silent_in told.bundle)
  tame_told t d e said =
      told_by (proof_bound (silent_in told.bundle)) k (AreTameInTimeEach told.bundle.net (silent_in told.bundle)) t d (e ∙ ap (certified_lines k) said)

  by_kind : (b : Bool) → is_silent told.bundle.proof ≡ b → IsPrintedLine input tame
  by_kind true silent =
      let lines = silent_lines told.bundle told.text silent told.told in
      record {
        bundle = told.bundle;
        line = told.line;
        stably = told.valid;
        valid = record { silent = silent; valid = silently_valid told.bundle silent told.valid };
        told = tame_told lines.0 lines.1 (sym lines.2 ∙ same_text);
      }
  by_kind false goals = absurd (not_both k tame _ (sym same_text ∙ goal_line told.bundle told.text goals told.told))

  printed_line : IsPrintedLine input tame
  printed_line = by_kind (is_silent told.bundle.proof) refl

-- `certified` is given only for the line of a bundle whose proof is valid
pub check_only : (k : ℕ) (tame : Bool) (input : List ℕ) (given : Result Output Refusal) → InputGives Check input given → (output_for given).text ≡ certified_lines k tame → IsValidLine input
check_only k tame input given is printed =
    let line = printed_line k tame input given is printed in record { bundle = line.bundle; line = line.line; valid = line.valid }

-- and `tame` only for tame layers
pub check_tame_only : (k : ℕ) (input : List ℕ) (given : Result Output Refusal) → InputGives Check input given → (output_for given).text ≡ certified_lines k true → IsTameLine input
check_tame_only k input given is printed =
    let line = printed_line k true input given is printed in
    let tame = line.told refl in
    record {
      bundle = line.bundle;
      line = line.line;
      valid = line.valid;
      tame = tame;
      settles = tame_settles line.bundle line.valid.silent line.line.value line.line.file line.stably tame;
    }

-- ---- `stable`

module _ (k : ℕ) (input : List ℕ) (given : Result Output Refusal) (is : InputGives Check input given) (printed : Printed given (ended (stable_text k))) where
  stably_told : IsToldValid input given
  stably_told =
      told_valid input given
      (λ refusal e. not_refused_stable refusal k (subst (λ (g : Result Output Refusal). Printed g (ended (stable_text k))) e printed))
      (λ rejected e. not_rejected_stable rejected k (subst (λ (g : Result Output Refusal). Printed g (ended (stable_text k))) e printed)) is

  same_line : stably_told.text ≡ ended (stable_text k)
  same_line = subst (λ (g : Result Output Refusal). Printed g (ended (stable_text k))) stably_told.is printed

  with_kind : (b : Bool) → is_silent stably_told.bundle.proof ≡ b → IsValidStableLine input
  with_kind true silent =
      let lines = silent_lines stably_told.bundle stably_told.text silent stably_told.told in
      absurd (not_both (proof_bound (silent_in stably_told.bundle)) lines.0 k (sym lines.2 ∙ same_line))
  with_kind false goals = record { bundle = stably_told.bundle; line = stably_told.line; goals = goals; valid = stably_told.valid }

  -- `stable` is given only for the line of a bundle with goals whose proof is valid
  pub stable_only : IsValidStableLine input
  stable_only = with_kind (is_silent stably_told.bundle.proof) refl
