-- ShownText: what a text of `show` tells a reader who has no file.
use Rattle.std.specs.Prelude.{◌≡◌, ℕ, ◌<◌, ◌^◌, Bool, true, List, ◌++◌}
use Rattle.base_lines.specs.Lines.{ended}
use Rattle.pres_ast.specs.PredTree.{PredTree}
use Rattle.pres_ast.specs.PredModel.{PredModel}
use Rattle.pop_leaf.specs.NetModel.{NetModel}
use Rattle.cert_base.specs.declared.stable.StableProof.{StableProof}
use Rattle.theory_goals.specs.StablyRight.{IsStablyRight}
use Rattle.theory_random.specs.ComputesAlmostSurely.{ComputesInCubicTime}
use Rattle.pop_checker.specs.Computes.{Computes}
use Rattle.cert_show.specs.Lines.{text_of}
use Rattle.cert_show.specs.Shown.{shown_of}
use Rattle.cert_show.specs.TextTells.{IsShowable, AreSeenAlike}
use Rattle.tool_texts.specs.declared.status.Status.{Status}
use Rattle.tool_texts.specs.declared.status.Status.TheVariants.{Done}
use Rattle.tool_proofs.specs.Certified.{certified_lines, stable_text}

-- what `check` says of a valid proof: `certified`, with `tame` or without, or `stable`, each with its bound
pub data Verdict : Type 0 where
  IsCertified : (bound : ℕ) (tame : Bool) → Verdict
  IsStable : (bound : ℕ) → Verdict

abbrev pub verdict_lines : Verdict → List ℕ
verdict_lines (IsCertified bound tame) = certified_lines bound tame
verdict_lines (IsStable bound) = ended (stable_text bound)

abbrev pub bound_of : Verdict → ℕ
bound_of (IsCertified bound tame) = bound
bound_of (IsStable bound) = bound

-- The net is stably right for the predicate, with this bound. By `certified` it falls silent with the value, and by
-- `tame` soon.
abbrev pub IsRightBy : Verdict → NetModel → PredTree → Type 0
IsRightBy (IsCertified bound tame) net tree =
    IsStablyRight net tree bound × Computes net tree bound × (tame ≡ true → ComputesInCubicTime net tree bound)
IsRightBy (IsStable bound) net tree = IsStablyRight net tree bound

-- what a reader finds in a text: the lines of `check`, and behind them those of a net, a predicate and a proof, which
-- are well formed
pub record Found (text : List ℕ) : Type 0 where
  pub verdict : Verdict
  pub net : NetModel
  pub pred : PredModel
  pub proof : StableProof
  pub formed : IsShowable net pred proof
  pub printed : text ≡ verdict_lines verdict ++ text_of (shown_of net pred proof)

-- What the text and the status of `show` tell. `shown`: with the status Done there is something to be found, and this
-- net is right. `found`: whatever you find in the text, the status is Done, and the net is right for the predicate; a
-- number that `check` prints is below 2 ^ 64. `only`: there is no other net or predicate in the text, and no other
-- proof but for what isn't printed.
pub record ShowTells (text : List ℕ) (status : Status) : Type 0 where
  pub shown : status ≡ Done → (found : Found text) × IsRightBy found.verdict found.net found.pred.tree
  pub found : (f : Found text) → (status ≡ Done) × (bound_of f.verdict < 2 ^ 64 → IsRightBy f.verdict f.net f.pred.tree)
  pub only : (found other : Found text) → (verdict_lines found.verdict ≡ verdict_lines other.verdict)
      × AreSeenAlike found.net other.net found.pred other.pred found.proof other.proof
