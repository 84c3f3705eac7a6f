-- The trees are within the limits of proofs.
use Rattle.std.proofs.Common.{◌≡◌, ℕ, zero, suc, ◌+◌, ◌^◌, ◌<◌, ◌≤◌, Bool, true, false, List, [], ◌∷◌, ◌++◌, length, map, arith}
use Rattle.std.specs.Prelude.{ℤ, pos, negsuc, All, if◌then◌else◌, replicate, not, ◌&&◌, ◌==◌, neg_ℤ}
use Rattle.std.specs.List.{range_with_len}
use Rattle.std.specs.Ordering.{int_eq}
use Rattle.std.proofs.lemmas.List.{length-append, length-replicate}
use Rattle.std.proofs.lemmas.List.FromFn.{length-range_with_len}
use Rattle.std.proofs.lemmas.List.Elements.{All-nil, All-cons, All-head, All-tail, All-append, All-map, All-replicate, All-filter}
use Rattle.pop_leaf.specs.LeafModel.{LeafModel, IsLeaf}
use Rattle.cert_base.specs.declared.node.Node.{Node}
use Rattle.cert_base.specs.declared.node.Node.TheVariants.{Present, Trap, Open}
use Rattle.cert_base.specs.declared.limits.TheConstants.{TERM_LIMIT}
use Rattle.cert_base.specs.Rows.{terms_from, zeros}
use Rattle.cert_base.specs.ProofLimits.{IsSmall, IsAscending, IsTermWithin, AreTermsWithin, IsSetWithin, IsNodeWithin, AreNodesWithin}
use Rattle.cert_base.specs.FactsAndCases.{states_of, can_meet_in, indicator}
use Rattle.comp_trees.specs.LeaderTree.{leaders, company_of, LeaderMix, mix_of_trap, mix_of_leader, leader_nodes, leader_tree, weighed_node, no_leader_mix, no_leak_mix, no_input_mix, helped_mix, no_start_mix, IsLed}
use Rattle.comp_trees.proofs.SameMix.{mix_short}
use Rattle.base_laws.proofs.Ranges.{all_range}

terms-long : (k : ℕ) (ms : List ℤ) → length (terms_from k ms) ≤ length ms
terms-long k [] = omega arith
terms-long k (m ∷ ms) = go (int_eq m (pos 0)) (terms-long (k + 1) ms)
  where
    go : (b : Bool) → length (terms_from (k + 1) ms) ≤ length ms → length (if b then terms_from (k + 1) ms else (record { at = k; by = m } ∷ terms_from (k + 1) ms)) ≤ suc (length ms)
    go true l = omega arith
    go false l = omega arith

terms-within : (k : ℕ) (ms : List ℤ) → k + length ms ≤ 2 ^ 32 → All IsSmall ms → All IsTermWithin (terms_from k ms)
terms-within k [] l all = All-nil IsTermWithin
terms-within k (m ∷ ms) l all = go (int_eq m (pos 0)) (terms-within (k + 1) ms (omega arith) (All-tail IsSmall m ms all))
  where
    go : (b : Bool) → All IsTermWithin (terms_from (k + 1) ms) → All IsTermWithin (if b then terms_from (k + 1) ms else (record { at = k; by = m } ∷ terms_from (k + 1) ms))
    go true rest = rest
    go false rest = All-cons IsTermWithin (record { at = k; by = m }) (terms_from (k + 1) ms) (omega arith, All-head IsSmall m ms all) rest

pub weighed-within : (ms : List ℤ) → length ms ≤ TERM_LIMIT → All IsSmall ms → IsNodeWithin (weighed_node ms)
weighed-within ms l all = (let long = terms-long 0 ms in omega arith, terms-within 0 ms (omega arith) all)

pub all-zeros : (n : ℕ) → All IsSmall (zeros n)
all-zeros n = All-replicate IsSmall n (pos 0) (omega arith)

pub one : (a : ℤ) → IsSmall a → All IsSmall (a ∷ [])
one a h = All-cons IsSmall a [] h (All-nil IsSmall)

-- a leader's multipliers
pub mix-small : (leaf : LeafModel) (p : ℕ) (mix : LeaderMix) → ((q : ℕ) → q < length leaf.states → IsSmall (mix.flows q)) → IsSmall mix.wrong → IsSmall mix.opened → ((q : ℕ) → q < length leaf.states → IsSmall (mix.ruled_out q)) → IsSmall mix.alone → All IsSmall (mix_of_leader leaf (company_of leaf p) mix p)
mix-small leaf p mix flows wrong opened out alone =
    let states = All-map IsSmall mix.flows (states_of leaf) (all_range (λ q. IsSmall (mix.flows q)) 0 (length leaf.states) (λ q l m. flows q (omega arith))) in
    let kept = All-map IsSmall mix.ruled_out (company_of leaf p) (All-filter (λ q. not (q == p) && can_meet_in leaf p q) (λ q. IsSmall (mix.ruled_out q)) (states_of leaf) (all_range (λ q. IsSmall (mix.ruled_out q)) 0 (length leaf.states) (λ q l m. out q (omega arith)))) in
    let base = All-append IsSmall (map mix.flows (states_of leaf)) (pos 0 ∷ pos 0 ∷ mix.wrong ∷ []) states (All-cons IsSmall (pos 0) (pos 0 ∷ mix.wrong ∷ []) (omega arith) (All-cons IsSmall (pos 0) (mix.wrong ∷ []) (omega arith) (one mix.wrong wrong))) in
    let opens = All-append IsSmall (map mix.flows (states_of leaf) ++ pos 0 ∷ pos 0 ∷ mix.wrong ∷ []) (mix.opened ∷ []) base (one mix.opened opened) in
    let trap = All-append IsSmall ((map mix.flows (states_of leaf) ++ pos 0 ∷ pos 0 ∷ mix.wrong ∷ []) ++ mix.opened ∷ []) (pos 0 ∷ []) opens (one (pos 0) (omega arith)) in
    let above = All-append IsSmall (mix_of_trap leaf mix) (zeros p) trap (all-zeros p) in
    All-append IsSmall (mix_of_trap leaf mix ++ zeros p) ((pos 0 ∷ map mix.ruled_out (company_of leaf p)) ++ mix.alone ∷ []) above
    (All-append IsSmall (pos 0 ∷ map mix.ruled_out (company_of leaf p)) (mix.alone ∷ []) (All-cons IsSmall (pos 0) (map mix.ruled_out (company_of leaf p)) (omega arith) kept) (one mix.alone alone))

ascending : (a n : ℕ) → IsAscending (range_with_len a n)
ascending a zero = tt
ascending a (suc zero) = tt
ascending a (suc (suc n)) = (omega arith, ascending (a + 1) (suc n))

pub nodes-long : (ends : ℕ → Node) (last : Node) (p k : ℕ) → length (leader_nodes ends last p k) ≡ k + k + 1
nodes-long ends last p zero = omega arith
nodes-long ends last p (suc k) = let e = nodes-long ends last (p + 1) k in omega (arith, length-append (leader_nodes ends last (p + 1) k) (ends p ∷ []), e)

pub nodes-within : (ends : ℕ → Node) (last : Node) (n p k : ℕ) → p + k ≤ n → n < 2 ^ 16 → IsNodeWithin last → ((q : ℕ) → q < n → IsNodeWithin (ends q)) → All IsNodeWithin (leader_nodes ends last p k)
nodes-within ends last n p zero l few h each = All-cons IsNodeWithin last [] h (All-nil IsNodeWithin)
nodes-within ends last n p (suc k) l few h each =
    All-cons IsNodeWithin (Present p) (leader_nodes ends last (p + 1) k ++ ends p ∷ []) (omega arith)
    (All-append IsNodeWithin (leader_nodes ends last (p + 1) k) (ends p ∷ []) (nodes-within ends last n (p + 1) k (omega arith) few h each) (All-cons IsNodeWithin (ends p) [] (each p (omega arith)) (All-nil IsNodeWithin)))

either_within : (c : Bool) (ms ns : List ℤ) → IsNodeWithin (weighed_node ms) → IsNodeWithin (weighed_node ns) → IsNodeWithin (weighed_node (if c then ms else ns))
either_within true ms ns h k = h
either_within false ms ns h k = k

pub tree-within : (leaf : LeafModel) (n : ℕ) (ends : ℕ → Node) → IsLeaf leaf → IsLed leaf n → ((q : ℕ) → q < n → IsNodeWithin (ends q)) → AreNodesWithin (leader_tree leaf n ends)
tree-within leaf n ends formed is each =
    let states = formed.states in
    let few = is.leaders in
    let longest = is.few in
    let ones : (m : ℕ) → All IsSmall (replicate m (negsuc 0)) = λ m. All-replicate IsSmall m (negsuc 0) (omega arith) in
    let leak_list = All-append IsSmall (zeros (length leaf.states + 4)) (pos 1 ∷ []) (all-zeros (length leaf.states + 4)) (one (pos 1) (omega arith)) in
    let leak_long : length (no_leak_mix leaf) ≡ length leaf.states + 5 = omega (arith, length-append (zeros (length leaf.states + 4)) (pos 1 ∷ []), length-replicate (length leaf.states + 4) (pos 0)) in
    let leak = weighed-within (no_leak_mix leaf) (omega arith) leak_list in
    let last = weighed-within (no_leader_mix leaf n) (omega (arith, length-append (no_leak_mix leaf) (replicate n (negsuc 0)), leak_long, length-replicate n (negsuc 0))) (All-append IsSmall (no_leak_mix leaf) (replicate n (negsuc 0)) leak_list (ones n)) in
    let first_list = zeros (length leaf.states) ++ pos 1 ∷ pos 0 ∷ pos 0 ∷ [] in
    let own_list = zeros (length leaf.moves) ++ replicate (length leaf.inputs) (negsuc 0) in
    let start_all = All-append IsSmall (first_list ++ pos 0 ∷ []) (own_list ++ pos 0 ∷ [])
    (All-append IsSmall first_list (pos 0 ∷ []) (All-append IsSmall (zeros (length leaf.states)) (pos 1 ∷ pos 0 ∷ pos 0 ∷ []) (all-zeros (length leaf.states)) (All-cons IsSmall (pos 1) (pos 0 ∷ pos 0 ∷ []) (omega arith) (All-cons IsSmall (pos 0) (pos 0 ∷ []) (omega arith) (one (pos 0) (omega arith))))) (one (pos 0) (omega arith)))
    (All-append IsSmall own_list (pos 0 ∷ []) (All-append IsSmall (zeros (length leaf.moves)) (replicate (length leaf.inputs) (negsuc 0)) (all-zeros (length leaf.moves)) (ones (length leaf.inputs))) (one (pos 0) (omega arith))) in
    let input = weighed-within (no_input_mix leaf) (omega (arith, length-append (first_list ++ pos 0 ∷ []) (own_list ++ pos 0 ∷ []), length-append first_list (pos 0 ∷ []), length-append (zeros (length leaf.states)) (pos 1 ∷ pos 0 ∷ pos 0 ∷ []), length-replicate (length leaf.states) (pos 0), length-append own_list (pos 0 ∷ []), length-append (zeros (length leaf.moves)) (replicate (length leaf.inputs) (negsuc 0)), length-replicate (length leaf.moves) (pos 0), length-replicate (length leaf.inputs) (negsuc 0))) start_all in
    let high_list = zeros (length leaf.states + 4) in
    let low_list = zeros (length leaf.moves + length leaf.inputs + 1) in
    let helped = weighed-within (helped_mix leaf) (omega (arith, length-append high_list (low_list ++ negsuc 0 ∷ []), length-append low_list (negsuc 0 ∷ []), length-replicate (length leaf.states + 4) (pos 0), length-replicate (length leaf.moves + length leaf.inputs + 1) (pos 0)))
    (All-append IsSmall high_list (low_list ++ negsuc 0 ∷ []) (all-zeros (length leaf.states + 4)) (All-append IsSmall low_list (negsuc 0 ∷ []) (all-zeros (length leaf.moves + length leaf.inputs + 1)) (one (negsuc 0) (omega arith)))) in
    let start = either_within (length leaf.helpers == 0) (no_input_mix leaf) (helped_mix leaf) input helped in
    let nodes = leader_nodes ends (weighed_node (no_leader_mix leaf n)) 0 n in
    let set : IsSetWithin (leaders n) = ((omega (arith, length-range_with_len 0 n)), all_range (λ q. q < 2 ^ 16) 0 n (λ q l m. omega arith), ascending 0 n) in (
      (omega (arith, nodes-long ends (weighed_node (no_leader_mix leaf n)) 0 n)),
      All-cons IsNodeWithin (Open (length leaf.states + 1)) (Trap (leaders n) ∷ weighed_node (no_leak_mix leaf) ∷ weighed_node (no_start_mix leaf) ∷ nodes) (omega arith)
          (All-cons IsNodeWithin (Trap (leaders n)) (weighed_node (no_leak_mix leaf) ∷ weighed_node (no_start_mix leaf) ∷ nodes) set
          (All-cons IsNodeWithin (weighed_node (no_leak_mix leaf)) (weighed_node (no_start_mix leaf) ∷ nodes) leak
          (All-cons IsNodeWithin (weighed_node (no_start_mix leaf)) nodes start (nodes-within ends (weighed_node (no_leader_mix leaf n)) n 0 n (omega arith) (omega arith) last each)))),
    )

-- a leader's node
pub leader-within : (leaf : LeafModel) (p : ℕ) (mix : LeaderMix) → IsLeaf leaf → p < length leaf.states → All IsSmall (mix_of_leader leaf (company_of leaf p) mix p) → IsNodeWithin (weighed_node (mix_of_leader leaf (company_of leaf p) mix p))
leader-within leaf p mix formed l all =
    weighed-within (mix_of_leader leaf (company_of leaf p) mix p) (mix_short leaf p mix l (let few = formed.states in omega arith)) all

pub leader-within_terms : (leaf : LeafModel) (p : ℕ) (mix : LeaderMix) → IsLeaf leaf → p < length leaf.states → All IsSmall (mix_of_leader leaf (company_of leaf p) mix p) → AreTermsWithin (terms_from 0 (mix_of_leader leaf (company_of leaf p) mix p))
leader-within_terms leaf p mix formed l all = leader-within leaf p mix formed l all

pub sign-small : (b : Bool) → IsSmall (neg_ℤ (indicator b))
sign-small true = omega arith
sign-small false = omega arith
