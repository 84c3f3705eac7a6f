use Rattle.cert_base.specs.ProofBound.{layers_bound}
use Rattle.pop_checker.specs.Parts.{IsRightPart}
use Rattle.pop_checker.proofs.PartWalk.{HoldsSoFar}
use Rattle.pop_checker.proofs.whole.check_parts.Given as goal

abbrev pub invariant-loop-number : goal.invariant-loop-number
invariant-loop-number l =
    HoldsSoFar IsRightPart (λ part. layers_bound part.layers) l.net l.proof.leaves l.number l.bound
