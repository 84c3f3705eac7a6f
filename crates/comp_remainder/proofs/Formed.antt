-- The built leaf of `Rest` is well formed.
use Rattle.std.proofs.Common.{◌≡◌, subst, ℕ, zero, suc, ◌+◌, ◌-◌, ◌%◌, ◌<◌, ◌≤◌, Bool, List, length, map, get_or, refl, sym, ◌∙◌, zero-add, arith}
use Rattle.std.specs.Prelude.{ℤ, pos, not, ◌==◌, All, flat_map, replicate}
use Rattle.std.specs.List.{range_with_len}
use Rattle.std.proofs.Math.Nat.{mod-lt}
use Rattle.std.proofs.lemmas.List.{length-map, length-append, length-replicate}
use Rattle.std.proofs.lemmas.List.Elements.{All-map, All-from_get_or, All-replicate}
use Rattle.std.proofs.lemmas.List.FromFn.{length-range_with_len, length-map-range_with_len}
use Rattle.pop_leaf.specs.declared.leaf.Move.{Move}
use Rattle.pop_leaf.specs.LeafModel.{LeafModel, IsLeaf, IsMoveBelow}
use Rattle.pop_leaf.specs.declared.limits.TheConstants.{HELPER_LIMIT}
use Rattle.comp_remainder.specs.RemainderLeaf.{residue_of, leader_meeting, follower_turn, remainder_pairs, remainder_moves, remainder_state_name, remainder_output, remainder_leaf_of}
use Rattle.comp_remainder.proofs.MoveLists.{all_moves, follower-below}
use Rattle.comp_remainder.proofs.Remainders.{residue-below}
use Rattle.comp_remainder.proofs.StateNames.{names-formed}
use Rattle.base_laws.proofs.Numbers.{triangle, triangle-le}

triangle-most : triangle 200 ≡ 20100
triangle-most = refl

pairs-few : (m rest a n : ℕ) → a + n ≡ m → length (flat_map (remainder_pairs m rest) (range_with_len a n)) ≤ triangle n
pairs-few m rest a zero e = omega arith
pairs-few m rest a (suc n) e =
    let more = pairs-few m rest (a + 1) n (omega arith) in
    omega (arith, length-append (remainder_pairs m rest a) (flat_map (remainder_pairs m rest) (range_with_len (a + 1) n)), length-map (range_with_len a (m - a)) (leader_meeting m rest a), length-range_with_len a (m - a), more)

pub moves-few : (m rest : ℕ) → m ≤ 200 → length (remainder_moves m rest) ≤ 20300
moves-few m rest l =
    let first = pairs-few m rest 0 m (zero-add m) in
    let second = triangle-le m 200 l in
    omega (arith, length-append (flat_map (remainder_pairs m rest) (range_with_len 0 m)) (map (follower_turn m rest) (range_with_len 0 m)), length-map (range_with_len 0 m) (follower_turn m rest), length-range_with_len 0 m, first, second, triangle-most)

pub remainder-formed : (coefs : List ℤ) (m rest spare : ℕ) → 1 ≤ length coefs → length coefs ≤ 16 → 1 ≤ m → m ≤ 200 → spare ≤ HELPER_LIMIT → IsLeaf (remainder_leaf_of coefs m rest spare)
remainder-formed coefs m rest spare some few low high held =
    let states_long = length-map-range_with_len (remainder_state_name m) 0 (m + 2) in
    let inputs_long = length-map coefs (residue_of m) in
    record {
      names = names-formed m high;
      some_state = omega arith;
      states = omega arith;
      move_count = (let moves = moves-few m rest high in omega arith);
      moves = subst (λ n. All (IsMoveBelow n) (remainder_moves m rest)) (sym states_long) (all_moves m rest (IsMoveBelow (m + 2)) (λ p q l k. (let r = mod-lt (p + q) (let z : 0 < m = omega arith in z) in (omega arith, omega arith, omega arith, follower-below m (((p + q) % m) == rest)))) (λ p l. (omega arith, follower-below m (not (p == rest)), omega arith, follower-below m (p == rest))));
      some_input = omega arith;
      input_count = omega arith;
      inputs = subst (λ n. All (λ q. q < n) (map (residue_of m) coefs)) (sym states_long) (All-map (λ q. q < m + 2) (residue_of m) coefs (All-from_get_or (λ a. residue_of m a < m + 2) coefs (pos 0) (λ i l. let k = residue-below m (get_or coefs i (pos 0)) (omega arith) in omega arith)));
      outputs = length-map-range_with_len (remainder_output m rest) 0 (m + 2) ∙ sym states_long;
      helper_count = omega (arith, length-replicate spare (let leader : ℕ = 0 in leader), held);
      helpers = All-replicate (λ q. q < length (map (remainder_state_name m) (range_with_len 0 (m + 2)))) spare 0 (omega (arith, states_long));
    }

-- the leaf as the code puts it together
pub formed-as : (coefs : List ℤ) (m rest spare : ℕ) (states : List (List ℕ)) (moves : List Move) (inputs : List ℕ) (outputs : List Bool) (helpers : List ℕ) → states ≡ map (remainder_state_name m) (range_with_len 0 (m + 2)) → moves ≡ remainder_moves m rest → inputs ≡ map (residue_of m) coefs → outputs ≡ map (remainder_output m rest) (range_with_len 0 (m + 2)) → helpers ≡ replicate spare 0 → 1 ≤ length coefs → length coefs ≤ 16 → 1 ≤ m → m ≤ 200 → spare ≤ HELPER_LIMIT → IsLeaf (record { states = states; moves = moves; inputs = inputs; outputs = outputs; helpers = helpers })
formed-as coefs m rest spare states moves inputs outputs helpers es em ei eo eh some few low high held =
    let leaf : List (List ℕ) → List Move → List ℕ → List Bool → List ℕ → LeafModel = λ a b c d e. record { states = a; moves = b; inputs = c; outputs = d; helpers = e } in
    subst (λ a. IsLeaf (leaf a moves inputs outputs helpers)) (sym es)
    (subst (λ b. IsLeaf (leaf (map (remainder_state_name m) (range_with_len 0 (m + 2))) b inputs outputs helpers)) (sym em)
    (subst (λ c. IsLeaf (leaf (map (remainder_state_name m) (range_with_len 0 (m + 2))) (remainder_moves m rest) c outputs helpers)) (sym ei)
    (subst (λ d. IsLeaf (leaf (map (remainder_state_name m) (range_with_len 0 (m + 2))) (remainder_moves m rest) (map (residue_of m) coefs) d helpers)) (sym eo)
    (subst (λ e. IsLeaf (leaf (map (remainder_state_name m) (range_with_len 0 (m + 2))) (remainder_moves m rest) (map (residue_of m) coefs) (map (remainder_output m rest) (range_with_len 0 (m + 2))) e)) (sym eh)
    (remainder-formed coefs m rest spare some few low high held)))))
