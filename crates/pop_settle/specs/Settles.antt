-- Settles: what `settle` says of a net, a proof of it and a crowd's words.
use Rattle.std.specs.Prelude.{◌≡◌, ◌*◌, ◌≤◌, List, length, Result, IfOk}
use Rattle.pop_net.specs.declared.net.Word.{Word}
use Rattle.pop_leaf.specs.NetModel.{NetModel}
use Rattle.pop_net.specs.Lanes.{crowd_of, AreValid}
use Rattle.pop_leaf.specs.Step.{Step}
use Rattle.pop_leaf.specs.Reachable.{ReachedWithin}
use Rattle.pop_leaf.specs.Terminal.{IsTerminal}
use Rattle.cert_base.specs.declared.proof.Proof.{Proof}
use Rattle.cert_base.specs.ProofBound.{proof_bound}
use Rattle.pop_settle.specs.declared.limits.TheConstants.{TAKE_LIMIT}
use Rattle.pop_settle.specs.declared.fault.SettleFault.{SettleFault}
use Rattle.pop_settle.specs.declared.take.Settled.{Settled}
use Rattle.pop_settle.specs.Settlement.{IsSettlement}
use Rattle.pop_settle.specs.Laws.{IsOnlySettlement}
use Rattle.pop_io.specs.declared.failure.Failure.{Failure}
use Rattle.pop_io.specs.Failures.{IfFault}
use Rattle.pop_settle.specs.Settling.{RefusesSettle}

pub record Settles (net : NetModel) (proof : Proof) (words : List Word) (result : Result Settled (Failure SettleFault))
    : Type 0 where
  pub settled : IfOk result (λ s. IsSettlement net proof (crowd_of net words) s.takes (crowd_of net s.crowd))
  -- there is no other settlement
  pub only : IfOk result (λ s. IsOnlySettlement net proof (crowd_of net words) s.takes (crowd_of net s.crowd))
  pub short : IfOk result (λ s. length s.takes ≤ proof_bound proof * length words)
  -- the takes are steps of the model, and no step leads further
  pub reached : IfOk result (λ s. ReachedWithin (Step net) (length s.takes) (crowd_of net words) (crowd_of net s.crowd))
  pub terminal : IfOk result (λ s. IsTerminal (Step net) (crowd_of net s.crowd))
  pub valid : IfOk result (λ s. AreValid net s.crowd)
  pub agents : IfOk result (λ s. length s.crowd ≡ length words)
  pub accepts : IfOk result (λ s. proof_bound proof * length words ≤ TAKE_LIMIT)
  pub refused : IfFault result (RefusesSettle proof (length words))
