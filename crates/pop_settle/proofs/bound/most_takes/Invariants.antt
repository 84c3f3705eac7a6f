use Rattle.std.proofs.Common.{◌≡◌, ◌+◌, ◌*◌, ◌≤◌, ◌^◌, drop}
use Rattle.std.specs.Prelude.{sum_by}
use Rattle.cert_base.specs.ProofBound.{layers_bound, proof_bound}
use Rattle.pop_settle.proofs.bound.most_takes.Given as goal

abbrev pub invariant-loop-part : goal.invariant-loop-part
invariant-loop-part l = record {
  so_far : l.bound + sum_by (λ part. layers_bound part.layers) (drop l.part-index l.proof.leaves) ≡ proof_bound l.proof;
  small : l.bound ≤ l.part-index * 2 ^ 49;
}
