-- A bundle of which each leaf falls silent, and what a valid proof in a bundle shows.
use Rattle.std.proofs.Common.{◌≡◌, ℕ, Bool, true, List, [], ◌∷◌, Some, sym, ap, subst, ◌∙◌}
use Rattle.std.specs.Prelude.{slice_get}
use Rattle.serde_json.specs.Data.{Data}
use Rattle.pop_leaf.specs.NetModel.{NetModel, CrowdModel}
use Rattle.pop_leaf.specs.Step.{Step}
use Rattle.pop_leaf.specs.Reachable.{Leads}
use Rattle.pop_leaf.specs.Terminal.{IsTerminal}
use Rattle.theory_fair.specs.OutputStable.{AllOutput}
use Rattle.cert_base.specs.declared.stable.StablePart.TheVariants.{Silent}
use Rattle.cert_base.specs.declared.stable.StableProof.{StableProof}
use Rattle.cert_base.specs.ProofBound.{proof_bound}
use Rattle.cert_base.specs.ValidProof.{ValidProof}
use Rattle.cert_json.specs.declared.stable.StableBundle.{StableBundle}
use Rattle.cert_json.specs.StableFile.{IsStableFile}
use Rattle.cert_json.proofs.StablePreds.{file_net, file_preds}
use Rattle.theory_goals.specs.OutputStable.{IsOutputStable}
use Rattle.theory_goals.specs.StablyRight.{IsStablyRight}
use Rattle.theory_random.specs.ComputesAlmostSurely.{ComputesInCubicTime}
use Rattle.pop_checker.specs.Sound.{ArePreds, IsRight}
use Rattle.pop_checker.specs.TameEach.{AreTameInTimeEach}
use Rattle.pop_checker.proofs.RightEnds.{sound}
use Rattle.pop_checker.specs.ValidStable.{ValidStableProof, stable_bound}
use Rattle.pop_checker.specs.Silent.{is_silent, of_silent}
use Rattle.pop_checker.proofs.SilentParts.{silent_listed, silent_proofs}
use Rattle.pop_checker.proofs.StableSound.{stable_sound}
use Rattle.pop_tool.specs.Headline.{HasValidProof, silent_in}

-- the net of a file whose proof is valid is stably right
pub file_stable : (bundle : StableBundle) (d : Data) → IsStableFile bundle d → HasValidProof bundle → IsStablyRight bundle.net bundle.pred.tree (stable_bound bundle.proof)
file_stable bundle d file valid = stable_sound bundle.net bundle.pred bundle.proof (file_net bundle d file) (file_preds bundle d file) valid

module _ (bundle : StableBundle) (silent : is_silent bundle.proof ≡ true) where
  pub silent_same : of_silent (silent_in bundle) ≡ bundle.proof
  silent_same = silent_proofs.same bundle.proof silent

  pub silently_valid : HasValidProof bundle → ValidProof bundle.net bundle.pred (silent_in bundle)
  silently_valid v = (silent_proofs.valid bundle.net bundle.pred (silent_in bundle)).0 (subst (ValidStableProof bundle.net bundle.pred) (sym silent_same) v)

  pub stably_valid : ValidProof bundle.net bundle.pred (silent_in bundle) → HasValidProof bundle
  stably_valid v = subst (ValidStableProof bundle.net bundle.pred) silent_same ((silent_proofs.valid bundle.net bundle.pred (silent_in bundle)).1 v)

  silent_preds : (d : Data) → IsStableFile bundle d → ArePreds bundle.net (silent_in bundle)
  silent_preds d file i part k =
      file_preds bundle d file i (Silent part)
      (subst (λ (proof : StableProof). slice_get proof.leaves i ≡ Some (Silent part)) silent_same (silent_listed (silent_in bundle).leaves i part k))

  -- and computes the predicate
  pub file_right : (d : Data) → IsStableFile bundle d → HasValidProof bundle → IsRight bundle.net bundle.pred (silent_in bundle)
  file_right d file v = sound bundle.net bundle.pred (silent_in bundle) (file_net bundle d file) (silent_preds d file) (silently_valid v)

  -- soon, if its layers are tame
  pub tame_settles : (d : Data) → IsStableFile bundle d → HasValidProof bundle → AreTameInTimeEach bundle.net (silent_in bundle) → ComputesInCubicTime bundle.net bundle.pred.tree (proof_bound (silent_in bundle))
  tame_settles d file v each = (file_right d file v).cubic (λ i leaf part h k. (each i leaf part h k).tame)

-- nothing is reached from a terminal crowd but itself
only_end : (net : NetModel) (end : CrowdModel) → IsTerminal (Step net) end → (path : List CrowdModel) (later : CrowdModel) → Leads (Step net) end path later → later ≡ end
only_end net end terminal [] later e = e
only_end net end terminal (next ∷ path) later (step, rest) =
    only_end net end terminal path later (subst (λ (c : CrowdModel). Leads (Step net) c path later) (terminal next step) rest)

pub terminal_stays : (net : NetModel) (value : Bool) (end : CrowdModel) → IsTerminal (Step net) end → AllOutput net value end → IsOutputStable net value end
terminal_stays net value end terminal outputs later (path, leads) =
    subst (AllOutput net value) (sym (only_end net end terminal path later leads)) outputs
