-- What the facts of a leader's node add up to.
use Rattle.std.proofs.Common.{◌≡◌, ℕ, Bool, true, [], ◌∷◌, ◌++◌, length, map, sym, ◌∙◌, arith}
use Rattle.std.specs.Prelude.{ℤ, pos, negsuc, ◌+ℤ◌, ◌*ℤ◌}
use Rattle.std.specs.List.{range_with_len}
use Rattle.std.proofs.lemmas.Int.{ints}
use Rattle.std.proofs.Math.IntN.{zero-*ℤ}
use Rattle.std.proofs.lemmas.List.{length-map, length-append, length-replicate}
use Rattle.std.proofs.lemmas.List.FromFn.{length-map-range_with_len}
use Rattle.pop_leaf.specs.LeafModel.{LeafModel}
use Rattle.pres_ast.specs.PredModel.{PredModel}
use Rattle.cert_base.specs.declared.fact.Fact.{Fact}
use Rattle.cert_base.specs.declared.fact.Fact.TheVariants.{Ge, Holds}
use Rattle.cert_base.specs.Rows.{zeros}
use Rattle.cert_base.specs.FactsAndCases.{states_of, flow, base_list, two_agents_fact, wrong_output_fact, absent_fact, occurs_fact, alone_fact, can_meet_in, count_row}
use Rattle.cert_base.specs.WeightedSums.{sum_of_facts}
use Rattle.cert_base.specs.WeightedSums.{total}
use Rattle.comp_trees.specs.LeaderTree.{leaders, company_of, facts_of_trap, facts_without, facts_of_leader, LeaderMix, mix_of_trap, mix_of_leader}
use Rattle.cert_base.proofs.WeightedSums.{weighted_sum-append, weighted_sum-zeros}
use Rattle.cert_base.proofs.FlowSums.{weighted_sum-map}

-- the facts of a leader's node, part by part, and as many multipliers
pub record AreAsLong (leaf : LeafModel) (pred : PredModel) (b : Bool) (opened : Fact) (n p : ℕ) (mix : LeaderMix) : Type 0 where
  pub flows : length (map (flow leaf) (states_of leaf)) ≡ length (map mix.flows (states_of leaf))
  pub base : length (base_list leaf pred b) ≡ length (map mix.flows (states_of leaf) ++ pos 0 ∷ pos 0 ∷ mix.wrong ∷ [])
  pub open_too : length (base_list leaf pred b ++ opened ∷ [])
      ≡ length ((map mix.flows (states_of leaf) ++ pos 0 ∷ pos 0 ∷ mix.wrong ∷ []) ++ mix.opened ∷ [])
  pub trap : length (facts_of_trap leaf (base_list leaf pred b) opened n) ≡ length (mix_of_trap leaf mix)
  pub without : length (facts_without leaf (facts_of_trap leaf (base_list leaf pred b) opened n) p)
      ≡ length (mix_of_trap leaf mix ++ zeros p)
  pub out : length (occurs_fact leaf p ∷ map (absent_fact leaf) (company_of leaf p)) ≡ length (pos 0 ∷ map mix.ruled_out (company_of leaf p))

pub as_long : (leaf : LeafModel) (pred : PredModel) (b : Bool) (opened : Fact) (n p : ℕ) (mix : LeaderMix)
    → AreAsLong leaf pred b opened n p mix
as_long leaf pred b opened n p mix =
    let base = base_list leaf pred b in
    let mf = map mix.flows (states_of leaf) in
    let mb = mf ++ pos 0 ∷ pos 0 ∷ mix.wrong ∷ [] in
    let facts = facts_of_trap leaf base opened n in
    let trap = Ge (count_row leaf (leaders n) (negsuc 0)) in
    let flows = map (flow leaf) (states_of leaf) in
    let absents = map (absent_fact leaf) (range_with_len 0 p) in
    let out = map (absent_fact leaf) (company_of leaf p) in
    let len_flows : length flows ≡ length mf = length-map (states_of leaf) (flow leaf) ∙ sym (length-map (states_of leaf) mix.flows) in
    let len_base : length base ≡ length mb = omega (arith, length-append flows (two_agents_fact leaf ∷ Holds pred b ∷ wrong_output_fact leaf b ∷ []), length-append mf (pos 0 ∷ pos 0 ∷ mix.wrong ∷ []), len_flows) in
    let len_open : length (base ++ opened ∷ []) ≡ length (mb ++ mix.opened ∷ []) = omega (arith, length-append base (opened ∷ []), length-append mb (mix.opened ∷ []), len_base) in
    let len_trap : length facts ≡ length (mix_of_trap leaf mix) = omega (arith, length-append (base ++ opened ∷ []) (trap ∷ []), length-append (mb ++ mix.opened ∷ []) (pos 0 ∷ []), len_open) in
    let len_without : length (facts_without leaf facts p) ≡ length (mix_of_trap leaf mix ++ zeros p) = omega (arith, length-append facts absents, length-append (mix_of_trap leaf mix) (zeros p), len_trap, length-map-range_with_len (absent_fact leaf) 0 p, length-replicate p (pos 0)) in
    let len_out : length (occurs_fact leaf p ∷ out) ≡ length (pos 0 ∷ map mix.ruled_out (company_of leaf p)) = omega (arith, length-map (company_of leaf p) (absent_fact leaf), length-map (company_of leaf p) mix.ruled_out) in
    record { flows = len_flows; base = len_base; open_too = len_open; trap = len_trap; without = len_without; out = len_out }

-- what the facts of a leader's node add up to, by what each fact has
pub leader_sum : (value : Fact → ℤ) (leaf : LeafModel) (pred : PredModel) (b : Bool) (opened : Fact) (n p : ℕ) (mix : LeaderMix) → can_meet_in leaf p p ≡ true → sum_of_facts value (facts_of_leader leaf (facts_of_trap leaf (base_list leaf pred b) opened n) p) (mix_of_leader leaf (company_of leaf p) mix p) ≡ (sum_of_facts value (map (flow leaf) (states_of leaf)) (map mix.flows (states_of leaf)) +ℤ (mix.wrong *ℤ value (wrong_output_fact leaf b)) +ℤ (mix.opened *ℤ value opened) +ℤ total (λ q. mix.ruled_out q *ℤ value (absent_fact leaf q)) (company_of leaf p) +ℤ (mix.alone *ℤ value (alone_fact leaf p)))
leader_sum value leaf pred b opened n p mix twin =
    let flows = map (flow leaf) (states_of leaf) in
    let base = base_list leaf pred b in
    let trap = Ge (count_row leaf (leaders n) (negsuc 0)) in
    let mf = map mix.flows (states_of leaf) in
    let mb = mf ++ pos 0 ∷ pos 0 ∷ mix.wrong ∷ [] in
    let absents = map (absent_fact leaf) (range_with_len 0 p) in
    let out = map (absent_fact leaf) (company_of leaf p) in
    let facts = facts_of_trap leaf base opened n in
    let long = as_long leaf pred b opened n p mix in
    let e1 = weighted_sum-append value flows (two_agents_fact leaf ∷ Holds pred b ∷ wrong_output_fact leaf b ∷ []) mf (pos 0 ∷ pos 0 ∷ mix.wrong ∷ []) long.flows in
    let e2 = weighted_sum-append value base (opened ∷ []) mb (mix.opened ∷ []) long.base in
    let e3 = weighted_sum-append value (base ++ opened ∷ []) (trap ∷ []) (mb ++ mix.opened ∷ []) (pos 0 ∷ []) long.open_too in
    let e4 = weighted_sum-append value facts absents (mix_of_trap leaf mix) (zeros p) long.trap in
    let e5 = weighted_sum-append value (facts_without leaf facts p) ((occurs_fact leaf p ∷ out) ++ alone_fact leaf p ∷ []) (mix_of_trap leaf mix ++ zeros p) ((pos 0 ∷ map mix.ruled_out (company_of leaf p)) ++ mix.alone ∷ []) long.without in
    let e6 = weighted_sum-append value (occurs_fact leaf p ∷ out) (alone_fact leaf p ∷ []) (pos 0 ∷ map mix.ruled_out (company_of leaf p)) (mix.alone ∷ []) long.out in
    let e7 = weighted_sum-zeros value absents p in
    let e8 = weighted_sum-map value (absent_fact leaf) mix.ruled_out (company_of leaf p) in
    let z1 = zero-*ℤ (value (two_agents_fact leaf)) in
    let z2 = zero-*ℤ (value (Holds pred b)) in
    let z3 = zero-*ℤ (value trap) in
    let z4 = zero-*ℤ (value (occurs_fact leaf p)) in
    rw twin (omega (arith, ints, e1, e2, e3, e4, e5, e6, e7, e8, z1, z2, z3, z4))
