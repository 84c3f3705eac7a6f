-- What a printed text of `settle` says of a bundle.
use Rattle.std.proofs.Common.{◌≡◌, ℕ, zero, suc, Bool, true, false, nat_lt, List, [], ◌∷◌, length, map, Option, Some, None, Result, Ok, Err, refl, ap, sym, subst, ◌∙◌}
use Rattle.std.specs.Prelude.{MatchBool, slice_get}
use Rattle.pop_io.specs.declared.whole.TheConstants.{INPUT_LIMIT}
use Rattle.base_lines.specs.Lines.{lines_of}
use Rattle.pop_leaf.specs.InputCrowd.{input_crowd}
use Rattle.pop_net.proofs.Tuples.{input_tuples}
use Rattle.pop_words.specs.declared.command.Command.TheVariants.{Settle}
use Rattle.cert_base.specs.declared.proof.LeafProof.{LeafProof}
use Rattle.cert_base.specs.declared.stable.StablePart.TheVariants.{Silent}
use Rattle.cert_base.specs.declared.stable.StableProof.{StableProof}
use Rattle.cert_base.specs.ValidLayers.{ValidLayers}
use Rattle.pop_settle.specs.declared.limits.TheConstants.{TAKE_LIMIT}
use Rattle.pop_settle.specs.Settling.{AreLayersValid}
use Rattle.pop_settle.proofs.Endings.{are_terminal, leads_reached}
use Rattle.tool_texts.specs.declared.refusal.Refusal.{Refusal}
use Rattle.tool_texts.specs.declared.refusal.Refusal.TheVariants.{TooLong, Settle as TooManyTakes}
use Rattle.tool_texts.specs.declared.output.Output.{Output}
use Rattle.tool_texts.specs.Steps.{After}
use Rattle.tool_texts.specs.Lines.{just_two}
use Rattle.tool_texts.specs.Refusals.{output_for}
use Rattle.cert_json.specs.declared.stable.StableBundle.{StableBundle}
use Rattle.cert_json.proofs.StablePreds.{file_net, file_preds}
use Rattle.pop_checker.specs.declared.stable_fault.StableRejected.{StableRejected}
use Rattle.pop_checker.specs.Silent.{is_silent}
use Rattle.pop_checker.proofs.SilentParts.{silent_proofs}
use Rattle.pop_settle.specs.Chosen.{part_at, proof_at}
use Rattle.pop_settle.proofs.Rests.{settlement_right}
use Rattle.tool_bundles.specs.Bundles.{IsBegunBy}
use Rattle.tool_rejections.specs.Judged.{IsJudged}
use Rattle.tool_proofs.specs.Settle.{takes_allowed, IsSettled, OfJudged, OfBegun, OfLines, SettleGives}
use Rattle.pop_tool.specs.Answer.{InputGives}
use Rattle.pop_tool.specs.Headline.{IsBundleInput, HasValidProof, silent_in, SettleSays}
use Rattle.pop_tool.proofs.BundleInput.{bundle_input}
use Rattle.pop_tool.proofs.SilentBundles.{file_stable, silently_valid, file_right}
use Rattle.pop_tool.proofs.RunHeadline.{two_lines}
use Rattle.pop_tool.proofs.CompileHeadline.{IsDone, refused}

-- of a leaf that falls silent all layers are chosen
chosen_at : (counts : List ℕ) (parts : List LeafProof) (i : ℕ) (part : LeafProof) → slice_get (map (part_at counts) (map Silent parts)) i ≡ Some part → (own : LeafProof) × (slice_get parts i ≡ Some own) × (part_at counts (Silent own) ≡ part)
chosen_at counts [] i part e = cc
chosen_at counts (own ∷ parts) zero part e = (own, refl, cc)
chosen_at counts (own ∷ parts) (suc i) part e = chosen_at counts parts i part e

chosen_length : (counts : List ℕ) (parts : List LeafProof) → length (map (part_at counts) (map Silent parts)) ≡ length parts
chosen_length counts [] = refl
chosen_length counts (part ∷ parts) = ap suc (chosen_length counts parts)

chosen_valid : (bundle : StableBundle) (counts : List ℕ) → is_silent bundle.proof ≡ true → HasValidProof bundle → AreLayersValid bundle.net (proof_at counts bundle.proof)
chosen_valid bundle counts silent valid =
    let v = silently_valid bundle silent valid in
    let leaves = (silent_in bundle).leaves in
    subst (λ (proof : StableProof). AreLayersValid bundle.net (proof_at counts proof)) (silent_proofs.same bundle.proof silent)
    (record {
      one_each = chosen_length counts leaves ∙ v.one_each;
      valid = λ i leaf part h k.
          let own = chosen_at counts leaves i part k in
          subst (λ (p : LeafProof). ValidLayers leaf p.layers) own.2 (v.leaves i leaf own.0 h own.1).layers;
    })

abbrev Says : List ℕ → Result Output Refusal → Type 0
Says input given = SettleSays input (output_for given).text

module _ (input : List ℕ) (given : Result Output Refusal) (done : IsDone given) where
  module _ (first second : List ℕ) (lines : lines_of input ≡ first ∷ second ∷ []) where
    settled_says : (bundle : StableBundle) (counts : List ℕ) → IsBundleInput first second bundle counts → HasValidProof bundle → IsSettled bundle counts given → Says input given
    settled_says bundle counts begins judged s =
        let net = bundle.net in
        let is = file_net bundle begins.value begins.file in
        let preds = file_preds bundle begins.value begins.file in
        let start = input_crowd net counts in
        let tuples = input_tuples net counts in
        let way = leads_reached net (proof_at counts bundle.proof) start s.end s.takes tuples s.settlement.leads in
        let stays = settlement_right net bundle.proof counts start s.end s.takes is s.settlement bundle.pred preds judged s.input ([], refl) in
        record {
          first = first;
          second = second;
          lines = lines;
          bundle = bundle;
          counts = counts;
          begins = begins;
          right = file_stable bundle begins.value begins.file judged;
          computes = λ silent. (file_right bundle silent begins.value begins.file judged).computes;
          takes = s.takes;
          end = s.end;
          settlement = s.settlement;
          reached = (way.0, way.2);
          terminal = λ silent. are_terminal net (proof_at counts bundle.proof) start s.end s.takes (chosen_valid bundle counts silent judged) tuples s.settlement;
          outputs = stays s.end ([], refl);
          stays = stays;
          printed = ap (λ (g : Result Output Refusal). (output_for g).text) s.is;
        }

    by_takes : (bundle : StableBundle) (counts : List ℕ) → IsBundleInput first second bundle counts → HasValidProof bundle → (long : Bool)
        → MatchBool long (given ≡ Err (TooManyTakes (takes_allowed bundle counts))) (IsSettled bundle counts given) → Says input given
    by_takes bundle counts begins judged true is = absurd (refused (TooManyTakes (takes_allowed bundle counts)) given is done)
    by_takes bundle counts begins judged false is = settled_says bundle counts begins judged is

    judged_says : (bundle : StableBundle) (counts : List ℕ) → IsBundleInput first second bundle counts → (judged : Option StableRejected) → IsJudged bundle judged → OfJudged bundle counts judged given → Says input given
    judged_says bundle counts begins None judged of = by_takes bundle counts begins judged (nat_lt TAKE_LIMIT (takes_allowed bundle counts)) of
    judged_says bundle counts begins (Some rejected) judged of = absurd (let e = subst IsDone of done in cc e)

    begun_says : (r : Result (StableBundle × List ℕ) Refusal) → IsBegunBy first second r → After r (λ begun. OfBegun begun.0 begun.1) given → Says input given
    begun_says (Err refusal) begins of = absurd (refused refusal given of done)
    begun_says (Ok begin) begins of = judged_says begin.0 begin.1 (bundle_input first second begin.0 begin.1 begins) of.0 of.1 of.2

  lines_say : (r : Result (List ℕ × List ℕ) Refusal) → just_two (lines_of input) ≡ r → After r OfLines given → Says input given
  lines_say (Err refusal) is of = absurd (refused refusal given of done)
  lines_say (Ok found) is of = begun_says found.0 found.1 (two_lines (lines_of input) found is) of.0 of.1 of.2

  by_length : (long : Bool) → MatchBool long (given ≡ Err TooLong) (SettleGives (lines_of input) given) → Says input given
  by_length true is = absurd (refused TooLong given is done)
  by_length false is = lines_say (just_two (lines_of input)) refl is

pub settle_says : (input : List ℕ) (given : Result Output Refusal) → InputGives Settle input given → IsDone given → SettleSays input (output_for given).text
settle_says input given is done = by_length input given done (nat_lt INPUT_LIMIT (length input)) is
