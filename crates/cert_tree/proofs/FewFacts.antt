-- The facts of a tree's beginning are few enough.
use Rattle.std.proofs.Common.{◌≤◌, Bool, ℕ, List, ◌∷◌, [], length, map, length-append, arith}
use Rattle.std.proofs.lemmas.List.{length-map}
use Rattle.std.proofs.lemmas.List.FromFn.{length-map-range_with_len}
use Rattle.pres_ast.specs.PredModel.{PredModel}
use Rattle.pop_leaf.specs.LeafModel.{LeafModel, IsLeaf}
use Rattle.cert_base.specs.declared.fact.Fact.TheVariants.{Holds}
use Rattle.cert_base.specs.FactsAndCases.{states_of, flow, two_agents_fact, wrong_output_fact, base_list, outside_fact, goal_list}

pub base_few : (leaf : LeafModel) (p : PredModel) (value : Bool) → IsLeaf leaf → length (base_list leaf p value) ≤ 65536
base_few leaf p value is =
    let long = length-append (map (flow leaf) (states_of leaf)) (two_agents_fact leaf ∷ Holds p value ∷ wrong_output_fact leaf value ∷ []) in
    let flows = length-map-range_with_len (flow leaf) 0 (length leaf.states) in
    let few = is.states in
    omega (arith, long, flows, few)

pub goal_few : (leaf : LeafModel) (p : PredModel) (value : Bool) (sets : List (List ℕ)) → IsLeaf leaf → length sets ≤ 64 → length (goal_list leaf p value sets) ≤ 65536
goal_few leaf p value sets is short =
    let long = length-append (map (flow leaf) (states_of leaf)) (two_agents_fact leaf ∷ Holds p value ∷ map (outside_fact leaf) sets) in
    let flows = length-map-range_with_len (flow leaf) 0 (length leaf.states) in
    let more = length-map sets (outside_fact leaf) in
    let few = is.states in
    omega (arith, long, flows, more, few, short)
