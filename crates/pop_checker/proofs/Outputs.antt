-- At the end of a checked net every agent outputs the predicate's value.
use Rattle.std.proofs.Common.{◌≡◌, ℕ, Bool, true, false, List, length, get_or, refl, sym, subst, ◌∙◌, arith}
use Rattle.std.specs.Prelude.{Some, slice_get, slice_index_or, All}
use Rattle.std.proofs.lemmas.Option.{slice_get_within, slice_get-get_or}
use Rattle.pres_ast.specs.PredModel.{PredModel}
use Rattle.pres_ast.specs.PredicateValue.{predicate_value}
use Rattle.pop_leaf.specs.LeafModel.{LeafModel}
use Rattle.pop_leaf.specs.NetModel.{NetModel, Tuple, CrowdModel, IsTuple, IsNet, state_of, output_of, number_of_helpers}
use Rattle.pop_leaf.specs.InputCrowd.{IsInput, input_crowd, leaf_input_crowd}
use Rattle.pop_leaf.specs.Step.{Step, LeafStep}
use Rattle.pop_leaf.specs.Reachable.{Reachable}
use Rattle.pop_leaf.specs.Terminal.{IsTerminal}
use Rattle.pop_net.proofs.Lifting.{terminal_component}
use Rattle.pop_net.proofs.Projection.{component, slice_get-component, input_component, reachable_component}
use Rattle.pop_leaf.proofs.Quiet.{All-slice_get}
use Rattle.pop_net.proofs.Tuples.{reachable_tuples, input_tuples}
use Rattle.cert_base.specs.declared.proof.Proof.{Proof}
use Rattle.cert_base.specs.declared.proof.LeafProof.{LeafProof}
use Rattle.cert_base.specs.ProofBound.{proof_bound}
use Rattle.cert_base.specs.ValidProof.{ValidProof, CombinesTo}
use Rattle.cert_base.specs.Ends.{EndsRight}
use Rattle.pop_checker.specs.Computes.{Computes}
use Rattle.pop_checker.specs.Parts.{IsRightPart, AreRightBefore}
use Rattle.pop_checker.proofs.NetEnds.{valid_ends}
use Rattle.theory_nets.proofs.Combined.{agent_right}

right_for : (leaf : LeafModel) (part : LeafProof) → IsRightPart leaf part → (b : Bool) → EndsRight leaf part.pred.tree b
right_for leaf part right true = right.on_true
right_for leaf part right false = right.on_false

module _ (net : NetModel) (proof : Proof) (is : IsNet net) (one_each : length proof.leaves ≡ length net.leaves) (right : AreRightBefore net proof.leaves (length net.leaves)) (counts : List ℕ) (crowd : CrowdModel) (input : IsInput (length net.variables) (number_of_helpers net) counts) (reached : Reachable (Step net) (input_crowd net counts) crowd) (terminal : IsTerminal (Step net) crowd) where
  are_tuples : All (IsTuple net) crowd
  are_tuples = reachable_tuples net (input_crowd net counts) crowd (input_tuples net counts) reached

  -- at a leaf, all agents output its predicate's value
  leaf_right : (i : ℕ) (leaf : LeafModel) (part : LeafProof) → slice_get net.leaves i ≡ Some leaf → slice_get proof.leaves i ≡ Some part → All (λ q. slice_index_or leaf.outputs q false ≡ predicate_value part.pred.tree counts) (component i crowd)
  leaf_right i leaf part h k =
      let inputs = All-slice_get (λ (l : LeafModel). length l.inputs ≡ length net.variables) net.leaves i leaf is.inputs h in
      let helpers = All-slice_get (λ (l : LeafModel). length l.helpers ≡ number_of_helpers net) net.leaves i leaf is.helpers h in
      let at : IsInput (length leaf.inputs) (length leaf.helpers) counts = record { one_each = input.one_each ∙ sym inputs; two_agents = omega (arith, input.two_agents, helpers) } in
      let way : Reachable (LeafStep leaf) (leaf_input_crowd leaf counts) (component i crowd) = subst (λ (c : List ℕ). Reachable (LeafStep leaf) c (component i crowd)) (input_component net i leaf counts h helpers) (reachable_component net i leaf (input_crowd net counts) crowd h reached) in
      let end = terminal_component net i leaf crowd h are_tuples terminal in
      right_for leaf part (right i leaf part (slice_get_within net.leaves i leaf h) h k) (predicate_value part.pred.tree counts) counts (component i crowd) at refl way end

  agent_outputs : (p : PredModel) → CombinesTo net proof p → (a : ℕ) (x : Tuple) → slice_get crowd a ≡ Some x → output_of net x ≡ predicate_value p.tree counts
  agent_outputs p combines a x there =
      agent_right net is counts LeafProof (λ (part : LeafProof). part.pred.tree) proof.leaves one_each x tuple leaves p.tree combines
    where
      tuple : IsTuple net x
      tuple = All-slice_get (IsTuple net) crowd a x are_tuples there

      leaves : (i : ℕ) (leaf : LeafModel) (part : LeafProof) → slice_get net.leaves i ≡ Some leaf → slice_get proof.leaves i ≡ Some part → slice_index_or leaf.outputs (state_of x i) false ≡ predicate_value part.pred.tree counts
      leaves i leaf part h k =
          All-slice_get (λ (q : ℕ). slice_index_or leaf.outputs q false ≡ predicate_value part.pred.tree counts) (component i crowd) a (state_of x i) (leaf_right i leaf part h k) (slice_get-component i crowd a x there)

-- a net with a right proof computes the predicate, within the proof's bound for each agent
pub computes : (net : NetModel) (p : PredModel) (proof : Proof) → IsNet net → ValidProof net p proof → AreRightBefore net proof.leaves (length net.leaves) → Computes net p.tree (proof_bound proof)
computes net p proof is v right counts crowd input r =
    record {
      ends = valid_ends net p proof is v counts crowd input r;
      right = λ terminal k d l. agent_outputs net proof is v.one_each right counts crowd input r terminal p v.combination k (get_or crowd k d) (slice_get-get_or crowd k d l);
    }
