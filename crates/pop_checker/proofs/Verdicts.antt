-- What the agents output in a terminal crowd that a checked net has reached.
use Rattle.std.proofs.Common.{◌≡◌, Bool, List, [], ◌∷◌, ℕ, length, ap, sym, ◌∙◌}
use Rattle.std.specs.Prelude.{Some, slice_get, All}
use Rattle.std.proofs.lemmas.List.Elements.{All-head}
use Rattle.pres_ast.specs.PredModel.{PredModel}
use Rattle.pres_ast.specs.PredicateValue.{predicate_value}
use Rattle.pop_net.specs.declared.net.Word.{Word}
use Rattle.pop_leaf.specs.NetModel.{NetModel, Tuple, IsNet, number_of_helpers, output_of}
use Rattle.pop_leaf.specs.InputCrowd.{IsInput, input_crowd}
use Rattle.pop_net.specs.Lanes.{tuple_of, crowd_of}
use Rattle.pop_leaf.specs.Step.{Step}
use Rattle.pop_leaf.specs.Reachable.{Reachable}
use Rattle.pop_leaf.specs.Terminal.{IsTerminal}
use Rattle.cert_base.specs.declared.proof.Proof.{Proof}
use Rattle.cert_base.specs.ProofBound.{proof_bound}
use Rattle.cert_base.specs.ValidProof.{ValidProof}
use Rattle.pop_checker.specs.CheckedModel.{CheckedModel, IsChecked}
use Rattle.pop_checker.specs.Parts.{AreRightBefore}
use Rattle.pop_checker.specs.Sound.{IsRight}
use Rattle.pop_checker.proofs.Outputs.{computes as computed}
use Rattle.pop_checker.proofs.Settles.{valid_settles}
use Rattle.pop_checker.proofs.Fairness.{steps_fairly, meetings_fairly}
use Rattle.pop_checker.proofs.Synchronous.{synchronous_fairly}
use Rattle.pop_checker.proofs.Random.{meetings_randomly}
use Rattle.theory_tame.proofs.Nets.{tame_cubic}
use Rattle.pop_checker.proofs.OneLayer.{one_layer_changes}

-- a net whose proof is right computes the predicate
pub right_by : (net : NetModel) (p : PredModel) (proof : Proof) → IsNet net → ValidProof net p proof → AreRightBefore net proof.leaves (length net.leaves) → IsRight net p proof
right_by net p proof is valid right =
    record {
      computes = computed net p proof is valid right;
      settles = λ single. valid_settles net p proof is valid single;
      fair = steps_fairly net p.tree (proof_bound proof) (computed net p proof is valid right);
      fair_synchronous = synchronous_fairly net p proof (proof_bound proof) is valid (computed net p proof is valid right);
      fair_meetings = λ single. meetings_fairly net p.tree (proof_bound proof) is (computed net p proof is valid right) (valid_settles net p proof is valid single);
      random = λ single. meetings_randomly net p.tree (proof_bound proof) is (computed net p proof is valid right) (valid_settles net p proof is valid single);
      changes = λ one. one_layer_changes net p proof is valid one;
      cubic = λ tame. tame_cubic net p.tree proof is
          (record {
            one_each = valid.one_each;
            each = λ i leaf part h g. record { valid = (valid.leaves i leaf part h g).layers; tame = tame i leaf part h g };
          })
          (λ counts crowd input r. (computed net p proof is valid right counts crowd input r).right);
    }

-- a net whose proof is right is checked
pub checked_by : (net : NetModel) (p : PredModel) (proof : Proof) (bound : ℕ) → IsNet net → p.variables ≡ length net.variables → ValidProof net p proof → AreRightBefore net proof.leaves (length net.leaves) → bound ≡ proof_bound proof → IsChecked (record { net = net; pred = p; bound = bound })
checked_by net p proof bound is variables valid right e =
    rw e
    (record {
      variables = variables;
      computes = computed net p proof is valid right;
      settles = λ single. valid_settles net p proof is valid single;
      fair = steps_fairly net p.tree (proof_bound proof) (computed net p proof is valid right);
      fair_synchronous = synchronous_fairly net p proof (proof_bound proof) is valid (computed net p proof is valid right);
      fair_meetings = λ single. meetings_fairly net p.tree (proof_bound proof) is (computed net p proof is valid right) (valid_settles net p proof is valid single);
      random = λ single. meetings_randomly net p.tree (proof_bound proof) is (computed net p proof is valid right) (valid_settles net p proof is valid single);
    })

-- all agents output the predicate's value
pub all_right : (checked : CheckedModel) (counts : List ℕ) (words : List Word) → IsChecked checked → IsInput (length checked.net.variables) (number_of_helpers checked.net) counts → Reachable (Step checked.net) (input_crowd checked.net counts) (crowd_of checked.net words) → IsTerminal (Step checked.net) (crowd_of checked.net words) → All (λ tuple. output_of checked.net tuple ≡ predicate_value checked.pred.tree counts) (crowd_of checked.net words)
all_right checked counts words is input reached terminal =
    (is.computes counts (crowd_of checked.net words) input reached).right terminal

-- what the first agent outputs is what all do
pub first_right : (checked : CheckedModel) (counts : List ℕ) (words : List Word) (word : Word) (result : Bool) → All (λ tuple. output_of checked.net tuple ≡ predicate_value checked.pred.tree counts) (crowd_of checked.net words) → slice_get words 0 ≡ Some word → result ≡ output_of checked.net (tuple_of checked.net word) → result ≡ predicate_value checked.pred.tree counts
first_right checked counts [] word result all there is = cc
first_right checked counts (first ∷ words) word result all there is =
    let same : first ≡ word = cc in
    is
    ∙ ap (λ (w : Word). output_of checked.net (tuple_of checked.net w)) (sym same)
    ∙ All-head (λ (tuple : Tuple). output_of checked.net tuple ≡ predicate_value checked.pred.tree counts) (tuple_of checked.net first) (crowd_of checked.net words) all

pub all_as_first : (checked : CheckedModel) (counts : List ℕ) (words : List Word) (result : Bool) → All (λ tuple. output_of checked.net tuple ≡ predicate_value checked.pred.tree counts) (crowd_of checked.net words) → result ≡ predicate_value checked.pred.tree counts → All (λ tuple. output_of checked.net tuple ≡ result) (crowd_of checked.net words)
all_as_first checked counts words result all e = λ k d l. all k d l ∙ sym e
