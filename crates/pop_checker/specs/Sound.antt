-- Sound: a valid proof of a well-formed net shows that the net computes the predicate, by the definitions alone.
use Rattle.std.specs.Prelude.{◌≡◌, ℕ, length, All, Some, slice_get}
use Rattle.pres_ast.specs.PredModel.{PredModel, HasAtoms}
use Rattle.pop_leaf.specs.NetModel.{NetModel, IsNet}
use Rattle.pop_leaf.specs.Reaction.{IsSingle}
use Rattle.cert_base.specs.declared.proof.Proof.{Proof}
use Rattle.cert_base.specs.declared.proof.LeafProof.{LeafProof}
use Rattle.cert_base.specs.ProofBound.{proof_bound}
use Rattle.cert_base.specs.ValidProof.{ValidProof}
use Rattle.pop_leaf.specs.Step.{Step}
use Rattle.theory_fair.specs.StablyComputes.{MeetingStep, StablyComputes}
use Rattle.theory_fair.specs.Synchronous.{SynchronousStep}
use Rattle.theory_random.specs.ComputesAlmostSurely.{ComputesAlmostSurely, ComputesInCubicTime}
use Rattle.theory_tame.specs.Laws.{AreTameEach}
use Rattle.pop_checker.specs.Computes.{Computes, EndsByMeetings}
use Rattle.pop_checker.specs.Changes.{ChangesAtMost}

-- the predicates of the leaves are over the net's variables, with coefficients for these alone
abbrev pub ArePreds : NetModel → Proof → Type 0
ArePreds net proof =
    (i : ℕ) (part : LeafProof) → slice_get proof.leaves i ≡ Some part → (part.pred.variables ≡ length net.variables)
    × HasAtoms part.pred.variables part.pred.tree

-- each leaf has one layer
abbrev pub HasOneLayerEach : Proof → Type 0
HasOneLayerEach proof = All (λ part. length part.layers ≡ 1) proof.leaves

-- The net computes the predicate within the proof's bound, and if no two moves of a leaf take the same states, meetings
-- alone lead to its end. So every fair execution stabilises.
pub record IsRight (net : NetModel) (p : PredModel) (proof : Proof) : Type 0 where
  pub computes : Computes net p.tree (proof_bound proof)
  pub settles : IsSingle net → EndsByMeetings net (proof_bound proof)
  -- in every fair execution from an input the crowd comes to rest, with the predicate's value as every agent's output
  pub fair : StablyComputes (Step net) net p.tree
  -- so in every fair execution by steps in which no leaf waits
  pub fair_synchronous : StablyComputes (SynchronousStep net) net p.tree
  -- for a single net, the fair executions by meetings do so too
  pub fair_meetings : IsSingle net → StablyComputes (MeetingStep net) net p.tree
  -- and meetings of uniformly random pairs lead to that end with probability 1
  pub random : IsSingle net → ComputesAlmostSurely net p.tree (proof_bound proof)
  -- where each leaf has one layer, every run comes to rest: at most so many of its steps per agent change the crowd
  pub changes : HasOneLayerEach proof → ChangesAtMost net (proof_bound proof)
  -- where the layers of each leaf are tame, the expected number of random meetings is at most cubic in the number of
  -- agents; one layer is tame
  pub cubic : AreTameEach net proof → ComputesInCubicTime net p.tree (proof_bound proof)

abbrev pub IsSound : Type 0
IsSound =
    (net : NetModel) (p : PredModel) (proof : Proof) → IsNet net → ArePreds net proof → ValidProof net p proof
    → IsRight net p proof
