-- SettlesGoals: what `settle_goals` says of a net, a proof in which leaves may have goals, counts and a crowd's words.
use Rattle.std.specs.Prelude.{◌≡◌, ℕ, ◌*◌, ◌≤◌, List, length, Result, IfOk}
use Rattle.pop_io.specs.declared.failure.Failure.{Failure}
use Rattle.pop_io.specs.Failures.{IfFault}
use Rattle.pop_net.specs.declared.net.Word.{Word}
use Rattle.pop_leaf.specs.NetModel.{NetModel}
use Rattle.pop_net.specs.Lanes.{crowd_of, AreValid}
use Rattle.pop_leaf.specs.Step.{Step}
use Rattle.pop_leaf.specs.Reachable.{ReachedWithin}
use Rattle.cert_base.specs.declared.stable.StableProof.{StableProof}
use Rattle.cert_base.specs.StableProof.{IsStableProofWithin}
use Rattle.cert_base.specs.ProofBound.{proof_bound}
use Rattle.pop_checker.specs.ValidStable.{ArePartsValidBefore}
use Rattle.pop_settle.specs.declared.limits.TheConstants.{TAKE_LIMIT}
use Rattle.pop_settle.specs.declared.fault.SettleFault.{SettleFault}
use Rattle.pop_settle.specs.declared.take.Settled.{Settled}
use Rattle.pop_settle.specs.Settlement.{IsSettlement}
use Rattle.pop_settle.specs.Laws.{IsOnlySettlement}
use Rattle.pop_settle.specs.Settling.{RefusesSettle}
use Rattle.pop_settle.specs.Chosen.{proof_at}
use Rattle.pop_settle.specs.RestLaws.{EndsRight}

-- the parts are valid, and the counts are over the net's variables
pub record CanSettle (net : NetModel) (proof : StableProof) (counts : List ℕ) : Type 0 where
  pub within : IsStableProofWithin (length net.variables) (length net.leaves) proof
  pub valid : ArePartsValidBefore net proof.leaves (length net.leaves)
  pub one_each : length counts ≡ length net.variables

pub record SettlesGoals (net : NetModel) (proof : StableProof) (counts : List ℕ) (words : List Word)
    (result : Result Settled (Failure SettleFault)) : Type 0 where
  -- at the last crowd no move of the chosen layers is possible
  pub settled : IfOk result
      (λ s. IsSettlement net (proof_at counts proof) (crowd_of net words) s.takes (crowd_of net s.crowd))
  -- there is no other settlement
  pub only : IfOk result
      (λ s. IsOnlySettlement net (proof_at counts proof) (crowd_of net words) s.takes (crowd_of net s.crowd))
  pub short : IfOk result (λ s. length s.takes ≤ proof_bound (proof_at counts proof) * length words)
  -- the takes are steps of the net
  pub reached : IfOk result (λ s. ReachedWithin (Step net) (length s.takes) (crowd_of net words) (crowd_of net s.crowd))
  pub right : IfOk result (λ s. EndsRight net proof counts (crowd_of net words) (crowd_of net s.crowd))
  pub valid : IfOk result (λ s. AreValid net s.crowd)
  pub agents : IfOk result (λ s. length s.crowd ≡ length words)
  pub accepts : IfOk result (λ s. proof_bound (proof_at counts proof) * length words ≤ TAKE_LIMIT)
  pub refused : IfFault result (RefusesSettle (proof_at counts proof) (length words))
