-- The lines of a valid proof.
use Rattle.std.specs.Prelude.{◌≡◌, ℕ, Bool, true, false, Decides, MatchBool, List, ◌++◌, codes, decimal}
use Rattle.base_lines.specs.Lines.{ended}
use Rattle.pop_leaf.specs.NetModel.{NetModel}
use Rattle.cert_base.specs.declared.proof.Proof.{Proof}
use Rattle.cert_base.specs.declared.stable.StableProof.{StableProof}
use Rattle.cert_base.specs.ProofBound.{proof_bound}
use Rattle.pop_checker.specs.TameEach.{AreTameInTimeEach}
use Rattle.pop_checker.specs.ValidStable.{stable_bound}
use Rattle.pop_checker.specs.Silent.{is_silent, silent_proof}

-- the line of a valid proof in which each leaf falls silent, with its bound per agent
abbrev pub certified_text : ℕ → List ℕ
certified_text bound = codes "certified " ++ decimal bound

-- that line, and the line `tame` if the layers of each leaf are tame
abbrev pub certified_lines : ℕ → Bool → List ℕ
certified_lines bound false = ended (certified_text bound)
certified_lines bound true = ended (certified_text bound) ++ ended (codes "tame")

-- the line of a valid proof in which some leaf has goals, with its bound per agent
abbrev pub stable_text : ℕ → List ℕ
stable_text bound = codes "stable " ++ decimal bound

-- `certified`, with `tame` if the layers of each leaf are tame, as far as it is told in time
abbrev pub AreCertifiedLines : NetModel → Proof → List ℕ → Type 0
AreCertifiedLines net proof text =
    (tame : Bool) × Decides tame (AreTameInTimeEach net proof) × (text ≡ certified_lines (proof_bound proof) tame)

-- the lines of a valid proof of this net
abbrev pub AreValidLines : NetModel → StableProof → List ℕ → Type 0
AreValidLines net proof text =
    MatchBool (is_silent proof) (AreCertifiedLines net (silent_proof proof) text)
    (text ≡ ended (stable_text (stable_bound proof)))
