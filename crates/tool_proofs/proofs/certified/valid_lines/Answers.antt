use Rattle.std.proofs.Common.{◌≡◌, ℕ, Bool, true, false, Decides, List, sym, ap, subst, rules, ◌∙◌}
use Rattle.std.specs.Prelude.{MatchBool}
use Rattle.base_lines.specs.Lines.{ended}
use Rattle.pop_leaf.specs.NetModel.{NetModel}
use Rattle.cert_base.specs.declared.stable.StableProof.{StableProof}
use Rattle.cert_base.specs.ProofBound.{proof_bound}
use Rattle.pop_checker.specs.TameEach.{AreTameInTimeEach}
use Rattle.pop_checker.specs.ValidStable.{stable_bound}
use Rattle.pop_checker.specs.Silent.{is_silent, silent_proof, of_silent, AreTameParts}
use Rattle.pop_checker.proofs.SilentParts.{silent_proofs}
use Rattle.tool_proofs.specs.Certified.{certified_lines, stable_text, AreCertifiedLines, AreValidLines}
use Rattle.tool_proofs.proofs.certified.valid_lines.Goals as goal

module _ (net : NetModel) (proof : StableProof) (text : List ℕ) where
  by_kind : (b : Bool) → is_silent proof ≡ b → MatchBool b (AreCertifiedLines net (silent_proof proof) text) (text ≡ ended (stable_text (stable_bound proof))) → AreValidLines net proof text
  by_kind b is told =
      subst (λ (c : Bool). MatchBool c (AreCertifiedLines net (silent_proof proof) text) (text ≡ ended (stable_text (stable_bound proof)))) (sym is) told

  silent_lines : is_silent proof ≡ true → (tame : Bool) → Decides tame (AreTameParts net proof) → text ≡ certified_lines (stable_bound proof) tame → AreValidLines net proof text
  silent_lines silent tame told is =
      let same = silent_proofs.same proof silent in
      let parts = silent_proofs.tame net (silent_proof proof) in
      let each : Decides tame (AreTameInTimeEach net (silent_proof proof)) = (
        (λ yes. parts.0 (subst (AreTameParts net) (sym same) (told.0 yes))),
        (λ e. told.1 (subst (AreTameParts net) same (parts.1 e))),
      ) in
      let bound : stable_bound proof ≡ proof_bound (silent_proof proof) = ap stable_bound (sym same) ∙ silent_proofs.bound (silent_proof proof) in
      by_kind true silent (tame, each, is ∙ ap (λ k. certified_lines k tame) bound)

pub returns-then-not-is_silent : goal.returns-then-not-is_silent
returns-then-not-is_silent c =
    let bundle = c.args.bundle.now in
    let goals : is_silent bundle.proof ≡ false = search rules in
    by_kind bundle.net bundle.proof c.in_ok-line.line.items false goals (c.in_ok-line.ensures ∙ ap (λ k. ended (stable_text k)) c.requires.bound)

pub returns : goal.returns
returns c =
    let bundle = c.args.bundle.now in
    let silent : is_silent bundle.proof ≡ true = search rules in
    silent_lines bundle.net bundle.proof c.in_ok-lines.lines.items silent c.in_ok-tame.tame c.in_ok-tame.ensures (c.in_ok-lines.ensures ∙ ap (λ k. certified_lines k c.in_ok-tame.tame) c.requires.bound)
