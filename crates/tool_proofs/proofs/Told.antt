-- A valid proof has one text.
use Rattle.std.proofs.Common.{◌≡◌, ℕ, Bool, true, false, List, sym, ap, ◌∙◌}
use Rattle.std.specs.Prelude.{MatchBool}
use Rattle.std.proofs.lemmas.Bool.Decides.{same_from_decides}
use Rattle.base_lines.specs.Lines.{ended}
use Rattle.pop_leaf.specs.NetModel.{NetModel}
use Rattle.cert_base.specs.declared.proof.Proof.{Proof}
use Rattle.cert_base.specs.declared.stable.StableProof.{StableProof}
use Rattle.cert_base.specs.ProofBound.{proof_bound}
use Rattle.pop_checker.specs.ValidStable.{stable_bound}
use Rattle.pop_checker.specs.Silent.{is_silent, silent_proof}
use Rattle.tool_proofs.specs.Certified.{certified_lines, stable_text, AreCertifiedLines, AreValidLines}

one_certified : (net : NetModel) (proof : Proof) (x y : List ℕ) → AreCertifiedLines net proof x → AreCertifiedLines net proof y → x ≡ y
one_certified net proof x y p q = p.2 ∙ ap (λ b. certified_lines (proof_bound proof) b) (same_from_decides p.0 q.0 p.1 q.1) ∙ sym q.2

module _ (net : NetModel) (proof : StableProof) (x y : List ℕ) where
  by_kind : (b : Bool) → MatchBool b (AreCertifiedLines net (silent_proof proof) x) (x ≡ ended (stable_text (stable_bound proof)))
      → MatchBool b (AreCertifiedLines net (silent_proof proof) y) (y ≡ ended (stable_text (stable_bound proof))) → x ≡ y
  by_kind true p q = one_certified net (silent_proof proof) x y p q
  by_kind false p q = p ∙ sym q

  pub one_text : AreValidLines net proof x → AreValidLines net proof y → x ≡ y
  one_text p q = by_kind (is_silent proof) p q
