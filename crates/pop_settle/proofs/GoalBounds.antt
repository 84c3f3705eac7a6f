-- The chosen layers allow no more steps than the whole proof.
use Rattle.std.proofs.Common.{ℕ, ◌≤◌, Bool, true, false, List, [], ◌∷◌, map, arith}
use Rattle.std.specs.Prelude.{sum_by}
use Rattle.std.proofs.lemmas.List.Sums.{sum_by-cons}
use Rattle.pres_ast.specs.PredicateValue.{predicate_value}
use Rattle.cert_base.specs.declared.proof.LeafProof.{LeafProof}
use Rattle.cert_base.specs.declared.stable.LeafGoals.{LeafGoals}
use Rattle.cert_base.specs.declared.stable.StablePart.{StablePart}
use Rattle.cert_base.specs.declared.stable.StablePart.TheVariants.{Silent, Stable}
use Rattle.cert_base.specs.declared.stable.StableProof.{StableProof}
use Rattle.cert_base.specs.ProofBound.{layers_bound, proof_bound}
use Rattle.pop_checker.specs.ValidStable.{goals_bound, part_bound, stable_bound}
use Rattle.pop_settle.specs.Chosen.{layers_for, layers_at, part_at, proof_at}

goal_short : (goals : LeafGoals) (value : Bool) → layers_bound (layers_for goals value) ≤ goals_bound goals
goal_short goals true = omega arith
goal_short goals false = omega arith

part_short : (counts : List ℕ) (part : StablePart) → layers_bound (layers_at counts part) ≤ part_bound part
part_short counts (Silent part) = omega arith
part_short counts (Stable goals) = goal_short goals (predicate_value goals.pred.tree counts)

parts_short : (counts : List ℕ) (parts : List StablePart) → sum_by (λ (part : LeafProof). layers_bound part.layers) (map (part_at counts) parts) ≤ sum_by part_bound parts
parts_short counts [] = omega arith
parts_short counts (part ∷ parts) =
    let chosen = sum_by-cons (λ (part : LeafProof). layers_bound part.layers) (part_at counts part) (map (part_at counts) parts) in
    let whole = sum_by-cons part_bound part parts in
    let one = part_short counts part in
    let more = parts_short counts parts in
    omega (arith, chosen, whole, one, more)

pub chosen_short : (proof : StableProof) (counts : List ℕ) → proof_bound (proof_at counts proof) ≤ stable_bound proof
chosen_short proof counts = parts_short counts proof.leaves
