-- Compiles: what the compiler says of a predicate, by the leaves that its atoms get.
use Rattle.std.specs.Prelude.{◌≡◌, ℕ, List, length, All, None, Result, IfOk}
use Rattle.pop_io.specs.declared.failure.Failure.{Failure}
use Rattle.pop_io.specs.Failures.{IfFault}
use Rattle.pres_ast.specs.PredModel.{PredModel, IsPred}
use Rattle.pop_leaf.specs.NetModel.{NetModel, IsNet}
use Rattle.pop_leaf.specs.Reaction.{IsSingle}
use Rattle.cert_base.specs.declared.proof.Proof.{Proof}
use Rattle.cert_base.specs.ProofBound.{proof_bound}
use Rattle.cert_base.specs.ProofLimits.{IsProofWithin}
use Rattle.cert_base.specs.ValidProof.{ValidProof}
use Rattle.pop_checker.specs.Sound.{IsRight}
use Rattle.theory_tame.specs.Laws.{AreTameEach}
use Rattle.comp_net.specs.declared.choice.LeafChoice.{LeafChoice}
use Rattle.comp_net.specs.declared.fault.CompileFault.{CompileFault}
use Rattle.comp_net.specs.BuiltNet.{net_with}
use Rattle.comp_net.specs.BuiltBound.{built_bound}
use Rattle.comp_net.specs.CompileFaults.{fault_with, RefusesWith}

-- the built net over these names with a valid proof, or the first fault of the predicate
pub record Compiles (choice : LeafChoice) (names : List (List ℕ)) (pred : PredModel)
    (result : Result (NetModel × Proof) (Failure CompileFault)) : Type 0 where
  pub net : IfOk result (λ both. both.0 ≡ net_with choice names pred.tree)
  pub valid : IfOk result (λ both. ValidProof both.0 pred both.1)
  -- the proof allows as many steps per agent as those of the predicate's atoms together
  pub bound : IfOk result (λ both. proof_bound both.1 ≡ built_bound choice pred.tree)
  pub within : IfOk result (λ both. IsProofWithin pred.variables (length both.0.leaves) both.1)
  -- the net is well formed, and the leaves' predicates are over its variables
  pub formed : IfOk result (λ both. IsNet both.0)
  pub preds : IfOk result (λ both. All (λ part. IsPred pred.variables part.pred.tree) both.1.leaves)
  -- no leaf has two moves that take the same states
  pub single : IfOk result (λ both. IsSingle both.0)
  -- the net computes the predicate, and can be led to its end by meetings
  pub right : IfOk result (λ both. IsRight both.0 pred both.1)
  -- the layers of its leaves are tame: so, by `right`, random meetings settle n agents within k * n * n * (n - 1) / 2
  -- meetings on average, where k is the bound
  pub tame : IfOk result (λ both. AreTameEach both.0 both.1)
  pub accepted : IfOk result (λ both. fault_with choice pred.tree ≡ None)
  pub refused : IfFault result (RefusesWith choice pred.tree)
