use Rattle.cert_base.specs.declared.stable.StablePart.{StablePart}
use Rattle.theory_nets.proofs.LeafByLeaf.{HoldBefore}
use Rattle.pop_checker.specs.Silent.{IsTamePart}
use Rattle.pop_checker.proofs.tame.are_tame.Given as goal

abbrev pub invariant-loop-number : goal.invariant-loop-number
invariant-loop-number l =
    HoldBefore (λ leaf (part : StablePart). IsTamePart leaf part) l.net l.proof.leaves l.number
