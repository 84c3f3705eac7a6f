-- What a text of `show` tells.
use Rattle.std.proofs.Common.{◌≡◌, ◌⊎◌, inl, inr, ℕ, ◌<◌, ◌^◌, Bool, true, false, List, [], ◌++◌, Result, refl, sym, ap, subst, ◌∙◌}
use Rattle.serde_json.specs.Data.{Data}
use Rattle.base_json.specs.Shapes.{listed}
use Rattle.base_lines.specs.Lines.{ended}
use Rattle.pres_ast.specs.PredModel.{PredModel}
use Rattle.pop_leaf.specs.NetModel.{NetModel}
use Rattle.pop_words.specs.declared.command.Command.TheVariants.{Show}
use Rattle.cert_base.specs.declared.stable.StableProof.{StableProof}
use Rattle.cert_base.specs.ProofBound.{proof_bound}
use Rattle.cert_json.specs.declared.stable.StableBundle.{StableBundle}
use Rattle.cert_json.specs.StableFile.{IsStableFile}
use Rattle.cert_json.proofs.StablePreds.{file_net}
use Rattle.theory_goals.specs.StablyRight.{IsStablyRight}
use Rattle.pop_checker.specs.ValidStable.{stable_bound}
use Rattle.pop_checker.specs.Silent.{is_silent}
use Rattle.pop_checker.proofs.SilentParts.{silent_proofs}
use Rattle.cert_show.specs.Lines.{text_of}
use Rattle.cert_show.specs.Shown.{shown_of}
use Rattle.cert_show.specs.TextTells.{IsShowable, AreSeenAlike}
use Rattle.cert_show.proofs.LinesTell.{lines_told}
use Rattle.cert_show.proofs.SameShown.{same_shown}
use Rattle.cert_show.proofs.Unbroken.{shown_lines}
use Rattle.tool_texts.specs.declared.refusal.Refusal.{Refusal}
use Rattle.tool_texts.specs.declared.output.Output.{Output}
use Rattle.tool_texts.specs.declared.status.Status.{Status}
use Rattle.tool_texts.specs.declared.status.Status.TheVariants.{Done}
use Rattle.tool_texts.specs.Statuses.{status_of}
use Rattle.tool_texts.specs.Refusals.{output_for}
use Rattle.tool_proofs.specs.Certified.{certified_lines, stable_text}
use Rattle.tool_proofs.proofs.Shown.{showable}
use Rattle.pop_tool.specs.Answer.{InputGives}
use Rattle.pop_tool.specs.Headline.{HasValidProof, silent_in, IsShownLine}
use Rattle.pop_tool.specs.Told.{BeginsCertified, BeginsStable, ShowTold}
use Rattle.pop_tool.specs.ShownText.{Verdict, IsCertified, IsStable, verdict_lines, bound_of, IsRightBy, Found, ShowTells}
use Rattle.pop_tool.proofs.SilentBundles.{silent_same}
use Rattle.pop_tool.proofs.CheckHeadline.{silent_lines, goal_line}
use Rattle.pop_tool.proofs.ShowHeadline.{show_done}
use Rattle.pop_tool.proofs.Told.{tame_begins, show_told}
use Rattle.pop_tool.proofs.FilePreds.{text_fits, parts_fit}
use Rattle.pop_tool.proofs.ShownLines.{lines_before, text_before, lines_are, parts_same, verdict_same, printed_same}

-- ---- one text

pub record AreAlike (text : List ℕ) (found other : Found text) : Type 0 where
  pub lines : lines_before found.verdict [] ≡ lines_before other.verdict []
  pub seen : AreSeenAlike found.net other.net found.pred other.pred found.proof other.proof

one_text : (text : List ℕ) (found other : Found text) → AreAlike text found other
one_text text p q =
    let xs = shown_of p.net p.pred p.proof in
    let ys = shown_of q.net q.pred q.proof in
    let texts : text_of (lines_before p.verdict xs) ≡ text_of (lines_before q.verdict ys) = sym (p.printed ∙ text_before p.verdict xs) ∙ (q.printed ∙ text_before q.verdict ys) in
    let all = lines_told (lines_before p.verdict xs) (lines_before q.verdict ys) (lines_are p.verdict xs (shown_lines p.net p.pred p.proof p.formed)) (lines_are q.verdict ys (shown_lines q.net q.pred q.proof q.formed)) texts in
    let parts = parts_same p.verdict q.verdict xs ys refl refl all in
    record { lines = parts.0; seen = same_shown p.net q.net p.pred q.pred p.proof q.proof p.formed q.formed parts.1 }

-- ---- what is shown

bundle_showable : (bundle : StableBundle) (d : Data) → IsStableFile bundle d → HasValidProof bundle → IsShowable bundle.net bundle.pred bundle.proof
bundle_showable bundle d file valid =
    let net = file_net bundle d file in
    let names = bundle.net.variables in
    record {
      formed = net;
      variables = file.pred.2.2.variables;
      limits = text_fits names net.some_variable net.variables file.pred.2.0 bundle.pred file.pred.2.2;
      own = showable bundle.net bundle.pred bundle.proof net valid file.within;
      parts = parts_fit names net.some_variable net.variables _ bundle.proof.leaves (listed file.proof.2.0) file.proof.2.2 file.within.parts;
    }

abbrev ShowsRight : List ℕ → Type 0
ShowsRight text = (found : Found text) × IsRightBy found.verdict found.net found.pred.tree

module _ (input text : List ℕ) (shown : IsShownLine input text) where
  abbrev found_by : (verdict : Verdict) → shown.checked ≡ verdict_lines verdict → Found text
  found_by verdict is =
      record {
        verdict = verdict;
        net = shown.bundle.net;
        pred = shown.bundle.pred;
        proof = shown.bundle.proof;
        formed = bundle_showable shown.bundle shown.line.value shown.line.file shown.valid;
        printed = shown.printed ∙ ap (λ (c : List ℕ). c ++ text_of (shown_of shown.bundle.net shown.bundle.pred shown.bundle.proof)) is;
      }

  right_by_kind : (b : Bool) → is_silent shown.bundle.proof ≡ b → ShowsRight text
  right_by_kind true silent =
      let bundle = shown.bundle in
      let lines = silent_lines bundle shown.checked silent shown.told in
      let K : ℕ = proof_bound (silent_in bundle) in
      let same_bound : stable_bound bundle.proof ≡ K = sym (ap stable_bound (silent_same bundle silent)) ∙ silent_proofs.bound (silent_in bundle) in (
        found_by (IsCertified K lines.0) lines.2,
        (
          subst (IsStablyRight bundle.net bundle.pred.tree) same_bound shown.stably,
          (shown.right silent).computes,
          λ tame. shown.settles silent (lines.2 ∙ ap (certified_lines K) tame),
        ),
      )
  right_by_kind false goals =
      let bundle = shown.bundle in
      (found_by (IsStable (stable_bound bundle.proof)) (goal_line bundle shown.checked goals shown.told), shown.stably)

  shows_right : ShowsRight text
  shows_right = right_by_kind (is_silent shown.bundle.proof) refl

-- ---- what is found

verdict_begins : (verdict : Verdict) (more : List ℕ) → BeginsCertified (verdict_lines verdict ++ more) ⊎ BeginsStable (verdict_lines verdict ++ more)
verdict_begins (IsCertified k tame) more = inl (tame_begins k tame more)
verdict_begins (IsStable k) more = inr (k, more, refl)

module _ (text : List ℕ) (status : Status) (told : ShowTold text status) (done : status ≡ Done → ShowsRight text) (found : Found text) where
  found_done : status ≡ Done
  found_done =
      told.done.1 (subst (λ (t : List ℕ). BeginsCertified t ⊎ BeginsStable t) (sym found.printed) (verdict_begins found.verdict (text_of (shown_of found.net found.pred found.proof))))

  found_right : bound_of found.verdict < 2 ^ 64 → IsRightBy found.verdict found.net found.pred.tree
  found_right small =
      let shown = done found_done in
      let given : Found text = shown.0 in
      let alike = one_text text found given in
      subst (λ (v : Verdict). IsRightBy v found.net found.pred.tree) (sym (verdict_same found.verdict given.verdict small alike.lines))
      (subst (λ (n : NetModel). IsRightBy given.verdict n found.pred.tree) (sym alike.seen.same_net)
      (subst (λ (p : PredModel). IsRightBy given.verdict given.net p.tree) (sym alike.seen.same_pred) shown.1))

tells : (text : List ℕ) (status : Status) → ShowTold text status → (status ≡ Done → ShowsRight text) → ShowTells text status
tells text status told done =
    record {
      shown = done;
      found = λ found. (found_done text status told done found, found_right text status told done found);
      only = λ found other.
          let alike = one_text text found other in
          (printed_same found.verdict other.verdict alike.lines, alike.seen);
    }

pub show_tells : (input : List ℕ) (given : Result Output Refusal) → InputGives Show input given → ShowTells (output_for given).text (status_of (output_for given).ending)
show_tells input given is =
    tells (output_for given).text (status_of (output_for given).ending) (show_told input given is)
    (λ done. shows_right input (output_for given).text (show_done input given is done))
